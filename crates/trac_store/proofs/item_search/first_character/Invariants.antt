use Rattle.trac_store.proofs.Imports.{NonePasses, byte_cell_at}
use Rattle.trac_store.proofs.item_search.first_character.Given as goal

abbrev pub invariant-loop-i : goal.invariant-loop-i
invariant-loop-i l = NonePasses (byte_cell_at l.cells) l.from l.i
