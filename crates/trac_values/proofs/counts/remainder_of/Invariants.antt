use Rattle.trac_values.proofs.Imports.{◌≡◌, ◌%◌, take, digits_value, text_of_cells}
use Rattle.trac_values.proofs.counts.remainder_of.Given as goal

-- `rest` is the value of the digits so far, modulo the divisor
abbrev pub invariant-loop-cell : goal.invariant-loop-cell
invariant-loop-cell l = l.rest ≡ digits_value 10 (take l.cell-index (text_of_cells l.digits)) % l.divisor
