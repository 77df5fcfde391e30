use Rattle.trac_space.proofs.Imports.{◌-◌, ◌≡◌, ◌≤◌, All, drop, take, paste, IsInRun, turned}
use Rattle.trac_space.specs.Tags.{NoCommaFrom}
use Rattle.trac_space.proofs.character_runs.translate_run.Given as goal

-- `count` characters are at their place, and no comma mark stands among them from `no_comma_from` on
abbrev pub invariant-loop-count : goal.invariant-loop-count
invariant-loop-count l =
    record {
      within : l.count ≤ l.most;
      run : All (IsInRun l.table) (take l.count (drop l.start l.fn.cells));
      last : l.no_comma_from ≤ l.count;
      no_comma_from : NoCommaFrom l.no_comma_from (take l.count (turned l.table (drop l.start l.fn.cells)));
      copied : l.cells ≡ paste l.fn.cells l.to (turned l.table (drop l.start l.fn.cells)) l.count;
    }

-- the characters that may follow
abbrev pub decreases-loop-count : goal.decreases-loop-count
decreases-loop-count l = l.most - l.count
