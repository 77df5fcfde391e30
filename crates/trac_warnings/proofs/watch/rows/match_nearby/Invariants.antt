use Rattle.std.proofs.Common.{◌≤◌}
use Rattle.trac_space.specs.Texts.{text_of_cells}
use Rattle.trac_core.specs.Matching.{IsAt}
use Rattle.trac_warnings.proofs.watch.rows.match_nearby.Given as goal

-- no match stands among the cells so far, and `depth` left parentheses are open there
abbrev pub invariant-loop-place : goal.invariant-loop-place
invariant-loop-place l =
    record {
      at : IsAt (text_of_cells l.cells) l.place l.depth;
      bound : l.depth ≤ l.place;
    }
