use Rattle.std.proofs.Common.{◌≡◌, drop}
use Rattle.trac_space.specs.Texts.{text_of_cells}
use Rattle.trac_warnings.specs.Gaps.{begins}
use Rattle.trac_warnings.proofs.gaps.begins.Given as goal

-- the items begin with the text exactly if the items that are left begin with what is left of the text
abbrev pub invariant-loop-cell : goal.invariant-loop-cell
invariant-loop-cell l =
    begins (text_of_cells (drop l.cell-index l.text)) l.rest ≡ begins (text_of_cells l.text) l.items
