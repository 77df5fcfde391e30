use Rattle.std.proofs.Common.{◌≡◌, drop}
use Rattle.trac_warnings.specs.Performed.{holds_one}
use Rattle.trac_warnings.proofs.segmented.holds_one.Given as goal

-- none of the texts so far stands in the body
abbrev pub invariant-loop-cell : goal.invariant-loop-cell
invariant-loop-cell l =
    holds_one l.k (drop l.cell-index l.ending.arguments.now) l.items l.ending
    ≡ holds_one 0 l.ending.arguments.now l.items l.ending
