use Rattle.std.proofs.Common.{◌≡◌, ◌+◌, drop, take, true}
use Rattle.std.specs.List.{position_or_len}
use Rattle.trac_space.specs.Cells.{is_comma}
use Rattle.trac_warnings.specs.Operands.{are_digits}
use Rattle.trac_warnings.proofs.operands.behind_digits.Given as goal

-- the cells so far are digits
abbrev pub invariant-loop-place : goal.invariant-loop-place
invariant-loop-place l =
    record {
      digits : are_digits (take l.place l.cells) ≡ true;
      place : position_or_len is_comma l.cells ≡ l.place + position_or_len is_comma (drop l.place l.cells);
    }
