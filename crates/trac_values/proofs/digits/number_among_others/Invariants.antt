use Rattle.trac_values.proofs.Imports.{◌≡◌, ◌-◌, ◌<◌, ◌≤◌, ◌^◌, take, drop, suffix_len, is_ascii_digit, digits_value, text_of_cells}
use Rattle.trac_values.proofs.digits.number_among_others.Given as goal

-- of the characters so far, those from start on are the longest suffix of digits, and the value is theirs
abbrev pub invariant-loop-i : goal.invariant-loop-i
invariant-loop-i l = record {
  within : l.start ≤ l.i;
  digits : suffix_len is_ascii_digit (take l.i (text_of_cells l.cells)) ≡ l.i - l.start;
  value : l.value ≡ digits_value 10 (take (l.i - l.start) (drop l.start (text_of_cells l.cells)));
  below : l.value < 10 ^ (l.i - l.start);
}
