use Rattle.trac_c.proofs.Imports.{◌≡◌, ◌++◌, length, take}
use Rattle.trac_c.specs.Turns.{written_to}
use Rattle.trac_c.proofs.devices.OverflowSinkSink.put_all.Given as goal

-- the characters so far were written
abbrev pub invariant-loop-i : goal.invariant-loop-i
invariant-loop-i l =
    record {
      same_room : l.self.room.ghost_name ≡ l.fn.self.room.ghost_name;
      same_size : length l.self.room.now ≡ length l.fn.self.room.now;
      counts : l.self.failures ≡ l.fn.self.failures;
      writes : written_to l.self ≡ written_to l.fn.self ++ take l.i l.text;
    }
