use Rattle.std.proofs.Common.{◌≡◌, ◌++◌, drop}
use Rattle.trac_space.specs.Texts.{text_of_cells}
use Rattle.trac_views.proofs.escapes.push_characters.Given as goal

-- the bytes so far and those of the cells that are left are the whole
abbrev pub invariant-loop-cell : goal.invariant-loop-cell
invariant-loop-cell g l =
    l.bytes.items ++ text_of_cells (drop l.cell-index l.cells)
    ≡ l.initial.bytes.items ++ text_of_cells l.cells
