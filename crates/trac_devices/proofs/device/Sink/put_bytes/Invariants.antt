use Rattle.trac_devices.proofs.Imports.{◌≡◌, ◌++◌, take}
use Rattle.trac_devices.proofs.device.Sink.put_bytes.Given as goal

-- the bytes so far were written
abbrev pub invariant-loop-byte : goal.invariant-loop-byte
invariant-loop-byte g l =
    record {
      kept : g.Self.Sink.lent l.self ≡ g.Self.Sink.lent l.initial.self;
      counts : g.Self.Sink.failure_count l.self ≡ g.Self.Sink.failure_count l.initial.self;
      told : g.Self.Sink.tells l.initial.self → g.Self.Sink.tells l.self;
      writes : g.Self.Sink.tells l.initial.self → g.Self.Sink.written l.self ≡ g.Self.Sink.written l.initial.self ++ take l.byte-index l.bytes;
    }
