use Rattle.std.proofs.Common.{◌≡◌, take}
use Rattle.trac_space.specs.Texts.{text_of_cells}
use Rattle.trac_warnings.specs.Letters.{in_small}
use Rattle.trac_warnings.proofs.letters.small_cells.Given as goal

-- the small letters so far
abbrev pub invariant-loop-cell : goal.invariant-loop-cell
invariant-loop-cell g l = text_of_cells l.small.items ≡ in_small (text_of_cells (take l.cell-index l.cells))
