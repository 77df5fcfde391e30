use Rattle.std.proofs.Common.{◌∙◌, sym}
use Rattle.trac_warnings.proofs.Unmarked.{numbered-line, unnumbered-line}
use Rattle.trac_warnings.proofs.written.look_at_lines.Goals as goal
use Rattle.trac_warnings.proofs.written.look_at_lines.Goals.{then-is_numbered, else-is_numbered}

pub loop-place-preserved : goal.loop-place-preserved
loop-place-preserved g c =
    let at = c.loop-place in
    let value = c.count_before.ensures.value in
    elim c.if-is_numbered.branch [
      | then-is_numbered w ↦
          numbered-line at.first c.if-is_numbered.first at.count c.if-is_numbered.count at.place
          c.count_before.result c.args.input.now c.loop-place-test.true value
          (w.first-is ∙ w.or-first.ensures) (w.count-is ∙ w.saturating_add-count.ensures)
          (sym c.is_numbered.ensures ∙ w.if-is_numbered.true) ∙ at.invariant
      | else-is_numbered w ↦
          unnumbered-line at.first c.if-is_numbered.first at.count c.if-is_numbered.count at.place
          c.count_before.result c.args.input.now c.loop-place-test.true value
          w.first-is w.count-is (sym c.is_numbered.ensures ∙ w.if-is_numbered.false) ∙ at.invariant
    ]
