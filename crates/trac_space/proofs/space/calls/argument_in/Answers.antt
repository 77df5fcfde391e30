use Rattle.trac_space.proofs.Imports.{◌≡◌, ◌+◌, ◌-◌, sym, ◌∙◌, arith}
use Rattle.trac_space.proofs.Commas.{commas_none, commas_more_yes, commas_more_no}
use Rattle.trac_space.proofs.space.calls.argument_in.Goals as goal
use Rattle.trac_space.proofs.space.calls.argument_in.Goals.{then-is_comma+else-number-k, else-is_comma}

pub loop-to-preserved : goal.loop-to-preserved
loop-to-preserved c =
    let cells = c.args.neutral.now in
    let i = c.loop-to.to in
    let h = c.loop-to.invariant in
    elim c.if-is_comma.branch [
      | then-is_comma+else-number-k w ↦
          let found = sym c.is_comma.ensures ∙ w.if-is_comma.true in
          let more = commas_more_yes cells (c.args.call + 1) i (omega arith) (omega arith) found in
          let at : i + 1 - 1 ≡ i = omega arith in
          rw (w.from-is, w.number-is) (record {
            after = omega arith;
            order = omega arith;
            begins = λ _. rw at (omega arith, found);
            number = more ∙ omega arith;
            whole = commas_none cells (i + 1);
            so_far = more ∙ omega arith;
            at_most = omega arith;
          })
      | else-is_comma w ↦
          let other = sym c.is_comma.ensures ∙ w.if-is_comma.false in
          rw (w.from-is, w.number-is) (record {
            after = omega arith;
            order = omega arith;
            begins = h.begins;
            number = h.number;
            whole = commas_more_no cells c.loop-to.from i (omega arith) (omega arith) other ∙ h.whole;
            so_far = commas_more_no cells (c.args.call + 1) i (omega arith) (omega arith) other ∙ h.so_far;
            at_most = omega arith;
          })
    ]
