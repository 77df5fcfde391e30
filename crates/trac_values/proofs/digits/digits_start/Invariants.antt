use Rattle.trac_values.proofs.Imports.{◌≡◌, length, ◌+◌, ◌≤◌, take, suffix_len, is_ascii_digit, text_of_cells}
use Rattle.trac_values.proofs.digits.digits_start.Given as goal

-- the cells from start on are digits
abbrev pub invariant-loop-start : goal.invariant-loop-start
invariant-loop-start l = record {
  within : l.start ≤ length l.cells;
  digits : l.start + suffix_len is_ascii_digit (text_of_cells l.cells) ≡ length l.cells + suffix_len is_ascii_digit (take l.start (text_of_cells l.cells));
}

abbrev pub decreases-loop-start : goal.decreases-loop-start
decreases-loop-start l = l.start
