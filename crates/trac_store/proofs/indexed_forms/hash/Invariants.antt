use Rattle.trac_store.proofs.Imports.{◌≡◌, ◌<◌, ◌≤◌, ◌^◌, length, drop, text_of_cells, mixed}
use Rattle.trac_store.proofs.indexed_forms.hash.Given as goal

abbrev pub invariant-loop-left : goal.invariant-loop-left
invariant-loop-left l = record {
  within : l.left ≤ length l.name;
  bounded : l.number < 2 ^ 64;
  value : l.number ≡ mixed (text_of_cells (drop l.left l.name));
}

abbrev pub decreases-loop-left : goal.decreases-loop-left
decreases-loop-left l = l.left
