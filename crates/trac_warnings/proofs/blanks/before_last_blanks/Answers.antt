use Rattle.std.proofs.Common.{◌≡◌, ◌-◌, ◌∙◌, ap, arith, suc, sym, take}
use Rattle.trac_warnings.specs.Blanks.{before_blanks}
use Rattle.trac_warnings.proofs.Trimming.{blank-last, solid-front}
use Rattle.trac_warnings.proofs.blanks.before_last_blanks.Goals as goal
use Rattle.trac_warnings.proofs.blanks.before_last_blanks.Goals.{then-loop-end-test+else-is_blank, else-loop-end-test}

pub loop-end-preserved : goal.loop-end-preserved
loop-end-preserved c =
    let cells = c.args.cells.now in
    let end = c.loop-end.end in
    let i = c.loop-end.invariant in
    let before : suc (end - 1) ≡ end = omega (arith, c.loop-end-test.true) in
    record {
      same = sym (blank-last (end - 1) cells (omega (arith, c.loop-end-test.true, i.within))
          (sym c.is_blank.ensures ∙ c.if-is_blank.true))
          ∙ ap (λ n. before_blanks (take n cells)) before ∙ i.same;
      within = omega (arith, i.within);
    }

pub returns : goal.returns
returns c =
    let cells = c.args.cells.now in
    let end = c.loop-end.end in
    let i = c.loop-end.invariant in
    elim c.loop-end-test.branch [
      | then-loop-end-test+else-is_blank w ↦
          solid-front end cells (omega (arith, w.loop-end-test.true)) i.within
          (sym w.is_blank.ensures ∙ w.if-is_blank.false) ∙ i.same
      | else-loop-end-test w ↦
          let none : end ≡ 0 = omega (arith, w.loop-end-test.false) in
          ap (λ n. take n cells) none ∙ sym (ap (λ n. before_blanks (take n cells)) none) ∙ i.same
    ]
