use Rattle.trac_values.proofs.Imports.{◌≡◌, ◌-◌, ◌≤◌, Some, pos, length, take, digits_value, if_in_range, text_of_cells}
use Rattle.trac_values.proofs.digits.long_value.Given as goal

-- the value of the digits so far
abbrev pub invariant-loop-done : goal.invariant-loop-done
invariant-loop-done l = record {
  within : l.done ≤ length l.digits;
  value : l.value ≡ if_in_range (Some (pos (digits_value 10 (take l.done (text_of_cells l.digits)))));
}

abbrev pub decreases-loop-done : goal.decreases-loop-done
decreases-loop-done l = length l.digits - l.done
