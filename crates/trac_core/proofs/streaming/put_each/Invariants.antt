use Rattle.trac_core.proofs.Imports.{◌≡◌, ◌++◌, take}
use Rattle.trac_core.proofs.streaming.put_each.Given as goal

-- the characters so far were written
abbrev pub invariant-loop-i : goal.invariant-loop-i
invariant-loop-i g l =
    record {
      counts : g.O.Sink.failure_count l.sink ≡ g.O.Sink.failure_count l.initial.sink;
      kept : g.O.Sink.lent l.sink ≡ g.O.Sink.lent l.initial.sink;
      told : g.O.Sink.tells l.initial.sink → g.O.Sink.tells l.sink;
      writes : g.O.Sink.tells l.initial.sink → g.O.Sink.written l.sink ≡ g.O.Sink.written l.initial.sink ++ take l.i l.text;
    }
