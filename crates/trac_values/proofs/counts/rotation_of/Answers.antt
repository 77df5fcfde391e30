use Rattle.trac_values.proofs.Imports.{arith, sym, ◌∙◌, text_of_cells}
use Rattle.trac_values.proofs.LongNumbers.{rotation_minus, rotation_plain, rotation_none}
use Rattle.trac_values.proofs.counts.rotation_of.Goals as goal
use Rattle.trac_values.proofs.counts.rotation_of.Goals.{else-rest-gt0-via-then-rest-gt0+else-ends_with, else-rest-gt0-via-else-rest-gt0}

pub returns-then-ends_with : goal.returns-then-ends_with
returns-then-ends_with c =
    rotation_minus (text_of_cells c.args.cells.now) (text_of_cells c.split_digits.result.0.now) (text_of_cells c.split_digits.result.1.now) c.args.bits c.remainder_of-rest.result
    c.requires.0 c.split_digits.ensures.front c.split_digits.ensures.digits c.remainder_of-rest.ensures (sym c.ends_with.ensures ∙ c.if-ends_with.true) c.if-rest-gt0.true

pub returns-else-rest-gt0 : goal.returns-else-rest-gt0
returns-else-rest-gt0 c =
    let front = text_of_cells c.split_digits.result.0.now in
    elim c.else-rest-gt0.branch [
      | else-rest-gt0-via-then-rest-gt0+else-ends_with w ↦ rotation_plain _ front _ c.args.bits c.remainder_of-rest.result c.requires.0 c.split_digits.ensures.front c.split_digits.ensures.digits c.remainder_of-rest.ensures (sym w.ends_with.ensures ∙ w.if-ends_with.false)
      | else-rest-gt0-via-else-rest-gt0 w ↦ rotation_none _ front _ c.args.bits c.remainder_of-rest.result c.requires.0 c.split_digits.ensures.front c.split_digits.ensures.digits c.remainder_of-rest.ensures (omega arith)
    ]
