use Rattle.std.proofs.Common.{◌≡◌, ◌++◌, ◌-◌}
use Rattle.trac_views.specs.CallLines.{blanks_text}
use Rattle.trac_views.proofs.calls.push_blanks.Given as goal

-- the blanks so far and those that are left are the whole
abbrev pub invariant-loop-around : goal.invariant-loop-around
invariant-loop-around g l =
    l.line.items ++ blanks_text (l.depth - l._around) ≡ l.initial.line.items ++ blanks_text l.depth
