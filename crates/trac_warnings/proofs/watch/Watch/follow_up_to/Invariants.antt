use Rattle.std.proofs.Common.{◌≡◌, ◌-◌, ◌≤◌}
use Rattle.trac_space.specs.Texts.{text_of_cells}
use Rattle.trac_warnings.specs.Rows.{FollowsSoFar}
use Rattle.trac_warnings.proofs.watch.Watch.follow_up_to.Given as goal

-- the row was followed so far, within its reach
abbrev pub invariant-loop-row : goal.invariant-loop-row
invariant-loop-row g l =
    record {
      steps : l.row.steps ≤ l.reach.steps;
      place : l.row.place ≤ l.reach.place;
      pending : l.row.pending ≤ l.row.place;
      follows : FollowsSoFar (text_of_cells l.active) l.row l.initial.self l.self;
    }

-- the steps that are left
abbrev pub decreases-loop-row : goal.decreases-loop-row
decreases-loop-row g l = l.reach.steps - l.row.steps
