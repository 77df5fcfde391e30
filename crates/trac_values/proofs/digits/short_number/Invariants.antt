use Rattle.trac_values.proofs.Imports.{◌≡◌, length, ◌+◌, ◌-◌, ◌<◌, ◌≤◌, ◌^◌, take, drop, suffix_len, is_ascii_digit, digits_value, text_of_cells}
use Rattle.trac_values.proofs.digits.short_number.Given as goal

-- the cells from start on are digits, and the value is theirs
abbrev pub invariant-loop-start : goal.invariant-loop-start
invariant-loop-start l = record {
  within : l.start ≤ length l.cells;
  least : l.least ≤ l.start;
  digits : l.start + suffix_len is_ascii_digit (text_of_cells l.cells) ≡ length l.cells + suffix_len is_ascii_digit (take l.start (text_of_cells l.cells));
  value : l.value ≡ digits_value 10 (drop l.start (text_of_cells l.cells));
  power : l.power ≡ 10 ^ (length l.cells - l.start);
  below : l.value < 10 ^ (length l.cells - l.start);
}

abbrev pub decreases-loop-start : goal.decreases-loop-start
decreases-loop-start l = l.start
