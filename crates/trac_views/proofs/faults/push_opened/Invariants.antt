use Rattle.std.proofs.Common.{◌≡◌, ◌++◌, drop}
use Rattle.trac_views.specs.CallLines.{opened_text}
use Rattle.trac_views.proofs.faults.push_opened.Given as goal

-- the lines so far and those of the cells that are left are the whole
abbrev pub invariant-loop-place : goal.invariant-loop-place
invariant-loop-place g l =
    l.lines.items ++ opened_text l.left l.width (drop l.place l.neutral)
    ≡ l.initial.lines.items ++ opened_text l.skip l.width l.neutral
