use Rattle.std.proofs.Common.{◌≡◌, drop}
use Rattle.trac_space.specs.Texts.{text_of_cells}
use Rattle.trac_warnings.specs.Letters.{is_same_in_small}
use Rattle.trac_warnings.proofs.letters.is_same_in_small.Given as goal

-- the two texts are the same in small letters exactly if what is left of them is
abbrev pub invariant-loop-cell : goal.invariant-loop-cell
invariant-loop-cell l =
    is_same_in_small (text_of_cells (drop l.cell-index l.one)) (text_of_cells l.rest)
    ≡ is_same_in_small (text_of_cells l.one) (text_of_cells l.other)
