use Rattle.std.proofs.Common.{◌≡◌, take}
use Rattle.trac_space.specs.Texts.{text_of_cells}
use Rattle.trac_warnings.proofs.performed.characters_of.Given as goal

-- the characters so far
abbrev pub invariant-loop-cell : goal.invariant-loop-cell
invariant-loop-cell g l = l.text.items ≡ text_of_cells (take l.cell-index l.cells)
