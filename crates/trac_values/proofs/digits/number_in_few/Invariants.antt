use Rattle.trac_values.proofs.Imports.{◌≡◌, ◌<◌, ◌^◌, take, suffix_len, is_ascii_digit, digits_value, text_of_cells}
use Rattle.trac_values.proofs.digits.number_in_few.Given as goal

-- the characters so far are digits, and the value is theirs
abbrev pub invariant-loop-i : goal.invariant-loop-i
invariant-loop-i l = record {
  digits : suffix_len is_ascii_digit (take l.i (text_of_cells l.cells)) ≡ l.i;
  value : l.value ≡ digits_value 10 (take l.i (text_of_cells l.cells));
  below : l.value < 10 ^ l.i;
}
