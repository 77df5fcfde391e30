use Rattle.trac_store.proofs.Imports.{◌≡◌, [], map, take, NoneNamed, seen, forms_in, start_of}
use Rattle.trac_store.proofs.form_cells.FormCells.find_null.Given as goal

abbrev pub invariant-loop-k : goal.invariant-loop-k
invariant-loop-k l = record {
  begins : l.start ≡ start_of (forms_in (map seen l.cells)) l.k;
  none : NoneNamed [] (take l.k (forms_in (map seen l.cells)));
}
