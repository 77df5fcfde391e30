use Rattle.trac_store.proofs.Imports.{NonePasses, gap_cell_at}
use Rattle.trac_store.proofs.item_search.first_gap.Given as goal

abbrev pub invariant-loop-i : goal.invariant-loop-i
invariant-loop-i l = NonePasses (gap_cell_at l.cells) l.from l.i
