use Rattle.trac_core.proofs.Imports.{◌≡◌, ◌≤◌, ◌+◌, ◌-◌, ◌⊎◌, Bool, IsSound, used, turning, stage, standing}
use Rattle.trac_core.proofs.Advancing.{IsDriven, so_far}
use Rattle.trac_core.proofs.machine.advancing.go_on.Given as goal

-- the steps that are done were performed, and the need is that of the next step or is counted
abbrev pub invariant-loop-left : goal.invariant-loop-left
invariant-loop-left g l =
    record {
      few : l.left ≤ l.reach;
      allowed : l.at.steps + l.reach ≤ l.at.allowance;
      wanted : l.reach ≤ l.most;
      sound : IsSound l.work;
      room : l.work.room ≡ l.fn.work.room;
      peak : l.peak ≤ l.work.room;
      need : (l.need ≡ used l.work) ⊎ ((used l.work ≤ l.peak) × (l.need ≤ l.peak));
      ready : g.P.Performer.ready l.source l.sink;
      goes : (stops : Bool) →
          IsDriven (g.P.Performer.performed l.performer) (standing (turning stops l.fn.work l.fn.meta l.at) l.fn.source l.fn.sink) stops l.at
          (so_far (stage l.work l.meta l.source l.sink) (l.reach - l.left) l.peak);
    }

-- the steps that are left
abbrev pub decreases-loop-left : goal.decreases-loop-left
decreases-loop-left g l = l.left
