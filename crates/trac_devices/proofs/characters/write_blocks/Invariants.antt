use Rattle.trac_devices.proofs.Imports.{◌≤◌, ◌-◌, ◌+◌, length, AreWritten}
use Rattle.trac_devices.proofs.characters.write_blocks.Given as goal

-- the characters so far are written
abbrev pub invariant-loop-i : goal.invariant-loop-i
invariant-loop-i l =
    record {
      within : l.i ≤ length l.text;
      written : AreWritten l.i l.text l.bytes;
    }

abbrev pub decreases-loop-i : goal.decreases-loop-i
decreases-loop-i l = length l.text + 1 - l.i
