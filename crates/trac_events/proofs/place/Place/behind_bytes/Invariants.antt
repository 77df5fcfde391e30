use Rattle.std.proofs.Common.{◌≡◌, ◌≤◌, ◌-◌, drop, length}
use Rattle.std.specs.Prelude.{◌^◌}
use Rattle.trac_events.specs.Places.{behind_text}
use Rattle.trac_events.proofs.place.Place.behind_bytes.Given as goal

-- the place behind the bytes that are left is that behind all
abbrev pub invariant-loop-done : goal.invariant-loop-done
invariant-loop-done l =
    record {
      same : behind_text l.place (drop l.done l.bytes) ≡ behind_text l.fn.self l.bytes;
      fits : l.place.column ≤ 2 ^ 64 - 1;
    }

-- the bytes that are left
abbrev pub decreases-loop-done : goal.decreases-loop-done
decreases-loop-done l = length l.bytes - l.done
