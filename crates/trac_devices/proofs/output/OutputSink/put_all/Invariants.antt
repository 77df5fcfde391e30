use Rattle.trac_devices.proofs.Imports.{◌≡◌, ◌≤◌, ◌-◌, take, length, Appends, accepted}
use Rattle.trac_devices.proofs.output.OutputSink.put_all.Given as goal

-- the characters so far were taken
abbrev pub invariant-loop-taken : goal.invariant-loop-taken
invariant-loop-taken g l =
    let first = l.initial.self-inside.writer in
    let now = l.self-inside.writer in
    record {
      within : l.taken ≤ length l.text;
      counts : now.device.failures ≡ first.device.failures;
      appends : Appends (accepted g.W.Write.contents first) (accepted g.W.Write.contents now) (take l.taken l.text);
    }

-- the characters that are left
abbrev pub decreases-loop-taken : goal.decreases-loop-taken
decreases-loop-taken g l = length l.text - l.taken
