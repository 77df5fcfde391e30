use Rattle.trac_core.proofs.Imports.{◌-◌, ◌≤◌, length, text_of_cells, IsAt}
use Rattle.trac_core.proofs.runs.matching.Given as goal

-- no match stands among the first `i` cells, and `depth` left parentheses are open there
abbrev pub invariant-loop-i : goal.invariant-loop-i
invariant-loop-i l =
    record {
      at : IsAt (text_of_cells l.cells) l.i l.depth;
      bound : l.depth ≤ l.i;
      within : l.i ≤ length l.cells;
    }

abbrev pub decreases-loop-i : goal.decreases-loop-i
decreases-loop-i l = length l.cells - l.i
