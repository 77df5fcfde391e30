use Rattle.trac_devices.proofs.Imports.{◌≡◌, length, Keeps}
use Rattle.trac_devices.proofs.retrying.read_again.Given as goal

-- the buffer keeps its length, and an interrupted read consumed nothing
abbrev pub invariant-loop : goal.invariant-loop
invariant-loop g l = (length l.buf ≡ length l.initial.buf) × Keeps (g.R.Read.remaining l.initial.reader) (g.R.Read.remaining l.reader)
