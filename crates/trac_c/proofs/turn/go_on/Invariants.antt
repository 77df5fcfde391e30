use Rattle.trac_c.proofs.Imports.{◌≡◌, ◌-◌, ◌≤◌, None, Some, Fate, Goes, stands}
use Rattle.trac_core.specs.Machine.{KeepsSettings}
use Rattle.trac_c.proofs.turn.go_on.Given as goal

-- `done` steps are done, the run is not over, and no device has failed; where the run was over
-- before the turn, no step is done
abbrev pub invariant-loop-done : goal.invariant-loop-done
invariant-loop-done l =
    record {
      going :
          l.initial.machine.fate ≡ None →
          Goes l.ended l.done (stands l.initial.machine l.initial.source l.initial.sink)
          (stands l.machine l.source l.sink) × (l.machine.fate ≡ None);
      over :
          (fate : Fate) → l.initial.machine.fate ≡ Some fate →
          (l.done ≡ 0) × (l.machine ≡ l.initial.machine)
          × (l.source ≡ l.initial.source) × (l.sink.len ≡ l.initial.sink.len);
      same_room : l.sink.room.ghost_name ≡ l.initial.sink.room.ghost_name;
      bound : l.done ≤ l.most;
      settings : KeepsSettings l.initial.machine l.machine;
      sink : (l.sink.failures ≡ 0) × (l.sink.behind ≡ None);
    }

abbrev pub decreases-loop-done : goal.decreases-loop-done
decreases-loop-done l = l.most - l.done
