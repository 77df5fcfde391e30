use Rattle.trac_store.proofs.Imports.{◌≡◌, ℕ, ◌<◌, ◌≤◌, false, byte_cell_at}
use Rattle.trac_store.proofs.item_search.last_character.Given as goal

abbrev pub invariant-loop-end : goal.invariant-loop-end
invariant-loop-end l = record {
  within : l.end ≤ l.from;
  none : (k : ℕ) → l.end ≤ k → k < l.from → byte_cell_at l.cells k ≡ false;
}

abbrev pub decreases-loop-end : goal.decreases-loop-end
decreases-loop-end l = l.end
