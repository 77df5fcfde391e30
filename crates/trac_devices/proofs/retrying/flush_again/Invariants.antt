use Rattle.trac_devices.proofs.Imports.{Keeps}
use Rattle.trac_devices.proofs.retrying.flush_again.Given as goal

-- an interrupted flush appended nothing
abbrev pub invariant-loop : goal.invariant-loop
invariant-loop g l = Keeps (g.W.Write.contents l.initial.writer) (g.W.Write.contents l.writer)
