use Rattle.std.proofs.Common.{◌≡◌, ◌++◌, drop}
use Rattle.trac_views.specs.Shown.{shown_from, shown_text}
use Rattle.trac_views.proofs.escapes.push_text.Given as goal

-- what stands in the line and what is left to be shown are the whole
abbrev pub invariant-loop-place : goal.invariant-loop-place
invariant-loop-place g l = l.line.items ++ shown_from l.left (drop l.place l.bytes) ≡ l.initial.line.items ++ shown_text l.bytes
