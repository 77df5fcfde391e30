use Rattle.std.proofs.Common.{◌≡◌, drop}
use Rattle.trac_space.specs.Texts.{text_of_cells}
use Rattle.trac_warnings.specs.Gaps.{stands_in}
use Rattle.trac_warnings.proofs.gaps.stands_in.Given as goal

-- the text begins at no place so far
abbrev pub invariant-loop-i : goal.invariant-loop-i
invariant-loop-i l =
    stands_in (text_of_cells l.text) (drop l.i l.items) ≡ stands_in (text_of_cells l.text) l.items
