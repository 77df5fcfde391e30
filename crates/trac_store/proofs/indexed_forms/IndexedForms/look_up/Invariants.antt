use Rattle.trac_store.proofs.Imports.{◌≡◌, ◌≢◌, ℕ, ◌<◌, length, map, Head, seen, text_of_cells, name_at, cell_at, slot, hash}
use Rattle.trac_store.proofs.indexed_forms.IndexedForms.look_up.Given as goal

-- no slot that was looked at holds a form of the name
abbrev pub invariant-loop-i : goal.invariant-loop-i
invariant-loop-i l =
    let text = text_of_cells (map seen l.name) in
    (j k : ℕ) → j < l.i → k < length l.self → name_at l.self k ≡ text → cell_at (map seen l.table) (slot (map seen l.table) (hash text) j) ≢ Head k
