use Rattle.trac_events.proofs.Imports.{◌≡◌, drop, list_all, is_byte_cell}
use Rattle.trac_events.proofs.change.are_characters.Given as goal

-- all cells are characters exactly if the cells that are left are
abbrev pub invariant-loop-cell : goal.invariant-loop-cell
invariant-loop-cell l =
    list_all is_byte_cell (drop l.cell-index l.cells) ≡ list_all is_byte_cell l.cells
