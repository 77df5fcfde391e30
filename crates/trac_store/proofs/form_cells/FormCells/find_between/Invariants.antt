use Rattle.trac_store.proofs.Imports.{◌≡◌, ◌+◌, ◌-◌, ◌≤◌, map, slice_range, NoneNamed, seen, text_of_cells, forms_in, start_of}
use Rattle.trac_store.proofs.form_cells.FormCells.find_between.Given as goal

-- the name of the form that is next begins at the place, and no form before it has the name
abbrev pub invariant-loop-left : goal.invariant-loop-left
invariant-loop-left l = record {
  fewer : l.left ≤ l.end - l.fn.from.number;
  begins : l.at ≡ start_of (forms_in (map seen l.cells)) (l.end - l.left) + 3;
  none : NoneNamed (text_of_cells (map seen l.name)) (slice_range (forms_in (map seen l.cells)) l.fn.from.number (l.end - l.left));
}

abbrev pub decreases-loop-left : goal.decreases-loop-left
decreases-loop-left l = l.left
