use Rattle.std.proofs.Common.{◌≡◌, ◌+◌, None}
use Rattle.embedding_example.proofs.take_turn.Given as goal

-- the run is not over, no device has failed, and each turn of the loop did a step
abbrev pub invariant-loop-taken : goal.invariant-loop-taken
invariant-loop-taken l =
    record {
      running : l.machine.fate ≡ None;
      steps : l.machine.steps ≡ l.initial.machine.steps + l._taken;
      source : l.source.failures ≡ 0;
      sink : l.sink.failures ≡ 0;
    }
