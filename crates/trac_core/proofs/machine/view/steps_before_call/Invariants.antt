use Rattle.trac_core.proofs.Imports.{◌≡◌, ◌+◌, ◌-◌, ◌≤◌, drop, length, text_of_cells}
use Rattle.trac_core.specs.View.{steps_before_call}
use Rattle.trac_core.proofs.machine.view.steps_before_call.Given as goal

-- `steps` steps are counted, over the characters up to `place`
abbrev pub invariant-loop-steps : goal.invariant-loop-steps
invariant-loop-steps l =
    record {
      counted :
          l.steps + steps_before_call (l.most - l.steps) (drop l.place (text_of_cells l.active)) ≡ steps_before_call l.most (text_of_cells l.active);
      few : l.steps ≤ l.most;
      within : l.place ≤ length l.active;
    }

-- the steps that are left
abbrev pub decreases-loop-steps : goal.decreases-loop-steps
decreases-loop-steps l = l.most - l.steps
