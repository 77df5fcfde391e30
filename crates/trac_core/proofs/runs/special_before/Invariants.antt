use Rattle.trac_core.proofs.Imports.{◌+◌, ◌-◌, ◌≤◌, take, All, text_of_cells, IsOrdinary}
use Rattle.trac_core.proofs.runs.special_before.Given as goal

-- the characters so far have no rule of their own
abbrev pub invariant-loop-i : goal.invariant-loop-i
invariant-loop-i l = record {
  within : l.i ≤ l.end;
  ordinary : All IsOrdinary (take l.i (text_of_cells l.cells));
}

abbrev pub decreases-loop-i : goal.decreases-loop-i
decreases-loop-i l = l.end + 1 - l.i
