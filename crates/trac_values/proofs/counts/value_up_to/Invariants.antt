use Rattle.trac_values.proofs.Imports.{◌≡◌, min, take, digits_value, text_of_cells}
use Rattle.trac_values.proofs.counts.value_up_to.Given as goal

-- the value of the digits so far, up to the limit
abbrev pub invariant-loop-cell : goal.invariant-loop-cell
invariant-loop-cell l = l.value ≡ min (digits_value 10 (take l.cell-index (text_of_cells l.digits))) l.limit
