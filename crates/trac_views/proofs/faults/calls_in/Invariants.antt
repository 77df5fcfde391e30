use Rattle.std.proofs.Common.{◌≡◌, ◌≤◌, take}
use Rattle.std.specs.Prelude.{count_by}
use Rattle.trac_space.specs.Cells.{is_call}
use Rattle.trac_views.proofs.faults.calls_in.Given as goal

-- `count` is how many call marks are among the cells so far
abbrev pub invariant-loop-cell : goal.invariant-loop-cell
invariant-loop-cell l =
    record {
      counted : l.count ≡ count_by is_call (take l.cell-index l.neutral);
      few : l.count ≤ l.cell-index;
    }
