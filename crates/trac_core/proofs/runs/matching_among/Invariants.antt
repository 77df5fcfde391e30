use Rattle.trac_core.proofs.Imports.{◌+◌, ◌-◌, ◌≤◌, text_of_cells, IsAt}
use Rattle.trac_core.proofs.runs.matching_among.Given as goal

-- no match stands among the cells before `from + count`, and `depth` left parentheses are open there
abbrev pub invariant-loop-count : goal.invariant-loop-count
invariant-loop-count l =
    record {
      within : l.count ≤ l.number;
      at : IsAt (text_of_cells l.cells) (l.from + l.count) l.depth;
      bound : l.depth ≤ l.from + l.count;
    }

abbrev pub decreases-loop-count : goal.decreases-loop-count
decreases-loop-count l = l.number - l.count
