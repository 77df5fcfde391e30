use Rattle.std.proofs.Common.{◌≡◌, ◌+◌, drop}
use Rattle.std.specs.List.{prefix_len}
use Rattle.trac_space.specs.Texts.{text_of_cells}
use Rattle.trac_warnings.specs.Rows.{is_plain}
use Rattle.trac_warnings.proofs.watch.rows.plain_in.Given as goal

-- the characters so far are plain
abbrev pub invariant-loop-place : goal.invariant-loop-place
invariant-loop-place l =
    prefix_len is_plain (text_of_cells l.cells) ≡ l.place + prefix_len is_plain (drop l.place (text_of_cells l.cells))
