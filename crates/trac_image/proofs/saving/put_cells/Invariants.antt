use Rattle.trac_image.proofs.Imports.{◌≡◌, drop, page, wrote}
use Rattle.trac_space.specs.Texts.{text_of_cells}
use Rattle.trac_image.proofs.saving.put_cells.Given as goal

-- what is left to write gives what all gives
abbrev pub invariant-loop-cell : goal.invariant-loop-cell
invariant-loop-cell l =
    wrote (text_of_cells (drop l.cell-index l.cells)) (page l.at l.room) ≡ wrote (text_of_cells l.cells) (page l.fn.at l.fn.room)
