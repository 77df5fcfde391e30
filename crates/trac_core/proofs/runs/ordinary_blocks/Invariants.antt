use Rattle.trac_core.proofs.Imports.{◌+◌, ◌-◌, ◌≤◌, length, take, All, text_of_cells, IsOrdinary}
use Rattle.trac_core.proofs.runs.ordinary_blocks.Given as goal

-- the characters so far have no rule of their own
abbrev pub invariant-loop-i : goal.invariant-loop-i
invariant-loop-i l = record {
  within : l.i ≤ length l.cells;
  ordinary : All IsOrdinary (take l.i (text_of_cells l.cells));
}

abbrev pub decreases-loop-i : goal.decreases-loop-i
decreases-loop-i l = length l.cells + 1 - l.i
