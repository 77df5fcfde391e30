use Rattle.trac_store.proofs.Imports.{◌≡◌, ℕ, ◌<◌, false, map, seen, cell_at, slot, is_blank}
use Rattle.trac_store.proofs.indexed_forms.open_slot.Given as goal

-- no slot that was looked at is blank
abbrev pub invariant-loop-i : goal.invariant-loop-i
invariant-loop-i l = (j : ℕ) → j < l.i → is_blank (cell_at (map seen l.table) (slot (map seen l.table) l.first j)) ≡ false
