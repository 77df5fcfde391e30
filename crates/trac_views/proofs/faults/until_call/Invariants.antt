use Rattle.std.proofs.Common.{◌≡◌, ◌+◌, drop}
use Rattle.std.specs.List.{position_or_len}
use Rattle.trac_space.specs.Cells.{is_call}
use Rattle.trac_views.proofs.faults.until_call.Given as goal

-- no call mark stands among the cells so far
abbrev pub invariant-loop-place : goal.invariant-loop-place
invariant-loop-place l = position_or_len is_call l.cells ≡ l.place + position_or_len is_call (drop l.place l.cells)
