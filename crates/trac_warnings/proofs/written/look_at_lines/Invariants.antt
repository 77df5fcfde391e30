use Rattle.std.proofs.Common.{◌≡◌, ◌-◌, None, true, drop, length}
use Rattle.trac_warnings.specs.Script.{numbered_lines}
use Rattle.trac_warnings.proofs.written.look_at_lines.Given as goal

-- the lines so far, and those that are left, are all
abbrev pub invariant-loop-place : goal.invariant-loop-place
invariant-loop-place g l =
    numbered_lines l.first l.count true l.place (drop l.place l.input) ≡ numbered_lines None 0 true 0 l.input

-- the bytes that are left
abbrev pub decreases-loop-place : goal.decreases-loop-place
decreases-loop-place g l = length l.input - l.place
