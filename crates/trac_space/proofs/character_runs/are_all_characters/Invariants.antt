use Rattle.trac_space.proofs.Imports.{◌-◌, ◌<◌, All, drop, take, IsByte}
use Rattle.trac_space.proofs.character_runs.are_all_characters.Given as goal

-- `done` characters stand from `at` on
abbrev pub invariant-loop-done : goal.invariant-loop-done
invariant-loop-done l =
    record {
      within : l.done < l.n;
      bytes : All IsByte (take l.done (drop l.at l.cells));
    }

-- the cells that are to be looked at
abbrev pub decreases-loop-done : goal.decreases-loop-done
decreases-loop-done l = l.n - l.done
