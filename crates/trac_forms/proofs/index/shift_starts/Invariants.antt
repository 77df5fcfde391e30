use Rattle.trac_forms.proofs.Imports.{◌≡◌, ℕ, length, Text, IsIndexBut, started}
use Rattle.trac_forms.proofs.index.shift_starts.Given as goal

-- the forms so far begin earlier
abbrev pub invariant-loop-next : goal.invariant-loop-next
invariant-loop-next l = record {
  same : l.space ≡ record l.fn.space { index_area = l.space.index_area };
  len : length l.space.index_area ≡ length l.fn.space.index_area;
  index : (name : ℕ → Text) → (start : ℕ → ℕ) → IsIndexBut l.fn.space.index_area l.count l.count name start → IsIndexBut l.space.index_area l.count l.count name (started l.k l.next l.cells start);
}
