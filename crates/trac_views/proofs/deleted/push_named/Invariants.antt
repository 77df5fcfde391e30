use Rattle.std.proofs.Common.{◌≡◌, ◌++◌, drop}
use Rattle.trac_views.specs.CallLines.{named_deleted}
use Rattle.trac_views.proofs.deleted.push_named.Given as goal

-- the text so far and that of the cells that are left are the whole
abbrev pub invariant-loop-place : goal.invariant-loop-place
invariant-loop-place g l =
    l.line.items ++ named_deleted l.width l.machine.memory.forms (drop l.place l.arguments)
    ≡ l.initial.line.items ++ named_deleted l.width l.machine.memory.forms l.arguments
