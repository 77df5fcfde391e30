use Rattle.trac_forms.proofs.Imports.{◌≡◌, ◌<◌, length, take, ◌≤◌, forms_in, IsIndexed}
use Rattle.trac_forms.proofs.index.unindex_from.Given as goal

-- the forms before are in the table
abbrev pub invariant-loop-left : goal.invariant-loop-left
invariant-loop-left l = record {
  same : l.space ≡ record l.fn.space { index_area = l.space.index_area };
  some : 0 < length l.space.index_area;
  more : l.left ≤ length (forms_in l.fn.space.store);
  order : l.k ≤ l.left;
  index : IsIndexed l.space.index_area (take l.left (forms_in l.fn.space.store));
}

abbrev pub decreases-loop-left : goal.decreases-loop-left
decreases-loop-left l = l.left
