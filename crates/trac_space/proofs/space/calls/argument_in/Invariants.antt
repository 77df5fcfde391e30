use Rattle.trac_space.proofs.Imports.{◌≡◌, ◌+◌, ◌-◌, ◌<◌, ◌≤◌, commas, IsCommaAt}
use Rattle.trac_space.proofs.space.calls.argument_in.Given as goal

abbrev pub invariant-loop-to : goal.invariant-loop-to
invariant-loop-to l = record {
  after : l.call < l.from;
  order : l.from ≤ l.to;
  begins : l.call + 1 < l.from → IsCommaAt l.neutral (l.from - 1);
  number : commas l.neutral (l.call + 1) l.from ≡ l.number;
  whole : commas l.neutral l.from l.to ≡ 0;
  so_far : commas l.neutral (l.call + 1) l.to ≡ l.number;
  at_most : l.number ≤ l.k;
}
