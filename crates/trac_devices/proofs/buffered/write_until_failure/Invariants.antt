-- `write_out` ends, since each turn writes some bytes, and what is written is in the writer.
use Rattle.trac_devices.proofs.Imports.{◌≡◌, ◌-◌, ◌≤◌, length, take, Appends}
use Rattle.trac_devices.proofs.buffered.write_until_failure.Given as goal

abbrev pub invariant-loop-written : goal.invariant-loop-written
invariant-loop-written g l = (l.written ≤ length l.bytes) × Appends (g.W.Write.contents l.initial.to.writer) (g.W.Write.contents l.to.writer) (take l.written l.bytes) × (l.to.failures ≡ l.initial.to.failures)

abbrev pub decreases-loop-written : goal.decreases-loop-written
decreases-loop-written g l = length l.bytes - l.written
