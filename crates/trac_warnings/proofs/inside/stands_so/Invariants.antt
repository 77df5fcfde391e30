use Rattle.std.proofs.Common.{◌≡◌, drop}
use Rattle.std.specs.Prelude.{false}
use Rattle.trac_space.specs.Texts.{text_of_cells}
use Rattle.trac_warnings.specs.Gaps.{stands_so}
use Rattle.trac_warnings.proofs.inside.stands_so.Given as goal

-- the text stands at no place so far
abbrev pub invariant-loop-i : goal.invariant-loop-i
invariant-loop-i l =
    stands_so l.joined l.is_behind (text_of_cells l.text) (drop l.i l.items) ≡ stands_so l.joined false (text_of_cells l.text) l.items
