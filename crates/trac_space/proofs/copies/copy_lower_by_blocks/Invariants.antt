use Rattle.trac_space.proofs.Imports.{◌≡◌, ◌-◌, ◌<◌, drop, paste}
use Rattle.trac_space.proofs.copies.copy_lower_by_blocks.Given as goal

-- `done` cells are at their place
abbrev pub invariant-loop-done : goal.invariant-loop-done
invariant-loop-done l =
    record {
      within : l.done < l.n;
      copied : l.cells ≡ paste l.fn.cells l.to (drop l.start l.fn.cells) l.done;
    }

-- the cells that are left
abbrev pub decreases-loop-done : goal.decreases-loop-done
decreases-loop-done l = l.n - l.done
