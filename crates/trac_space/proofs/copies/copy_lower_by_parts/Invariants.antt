use Rattle.trac_space.proofs.Imports.{◌≡◌, ◌-◌, ◌≤◌, drop, paste}
use Rattle.trac_space.proofs.copies.copy_lower_by_parts.Given as goal

-- the first cells are at their place
abbrev pub invariant-loop-done : goal.invariant-loop-done
invariant-loop-done l =
    record {
      within : l.done ≤ l.all;
      copied : l.cells ≡ paste l.initial.cells l.to (drop l.start l.initial.cells) l.done;
    }

-- the cells that are left
abbrev pub decreases-loop-done : goal.decreases-loop-done
decreases-loop-done l = l.all - l.done
