use Rattle.trac_store.proofs.Imports.{◌≡◌, ◌≤◌, ◌+◌, ◌-◌, drop, length, before_comma}
use Rattle.trac_store.proofs.arguments.before_near_comma.Given as goal

-- no comma mark stands among the cells so far
abbrev pub invariant-loop-i : goal.invariant-loop-i
invariant-loop-i l =
    record {
      none : before_comma l.cells ≡ l.i + before_comma (drop l.i l.cells);
      within : l.i ≤ length l.cells;
    }

-- the cells that are left
abbrev pub decreases-loop-i : goal.decreases-loop-i
decreases-loop-i l = length l.cells - l.i
