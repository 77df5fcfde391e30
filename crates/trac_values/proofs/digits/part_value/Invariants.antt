use Rattle.trac_values.proofs.Imports.{◌≡◌, ◌<◌, ◌^◌, take, digits_value, text_of_cells}
use Rattle.trac_values.proofs.digits.part_value.Given as goal

-- the value of the digits so far
abbrev pub invariant-loop-i : goal.invariant-loop-i
invariant-loop-i l = record {
  value : l.value ≡ digits_value 10 (take l.i (text_of_cells l.digits));
  below : l.value < 10 ^ l.i;
  power : l.power ≡ 10 ^ l.i;
}
