-- What contracts say of a sink over memory.
use Rattle.std.specs.Prelude.{ℕ, List, length, take}
use Rattle.std.specs.Borrow.{GName}
use Rattle.trac_devices.specs.declared.slice_sink.SliceSink.{SliceSink}
use Rattle.trac_devices.specs.Slices.{SliceOutput}

-- what contracts see of a sink over memory: the bytes at the front of its room were written
abbrev pub slice_output : SliceSink → SliceOutput
slice_output s = record {
  written = take s.len s.room.now;
  room = length s.room.now;
  flushes_left = s.flushes_left;
  failures = s.failures;
  is_flushed = s.is_flushed;
}

-- the name of the memory that was lent to a sink
abbrev pub lent_name : SliceSink → GName
lent_name s = s.room.ghost_name

-- all that the memory lent to a sink holds
abbrev pub lent_bytes : SliceSink → List ℕ
lent_bytes s = s.room.now
