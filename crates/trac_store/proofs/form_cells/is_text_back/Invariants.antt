use Rattle.trac_store.proofs.Imports.{◌≡◌, ◌≤◌, length, drop, text_of_cells}
use Rattle.trac_store.proofs.form_cells.is_text_back.Given as goal

-- the characters from a place on are the same
abbrev pub invariant-loop-left : goal.invariant-loop-left
invariant-loop-left l = record {
  within : l.left ≤ length l.text;
  same : drop l.left (text_of_cells l.cells) ≡ drop l.left (text_of_cells l.text);
}

abbrev pub decreases-loop-left : goal.decreases-loop-left
decreases-loop-left l = l.left
