use Rattle.std.proofs.Common.{◌≡◌, drop}
use Rattle.std.specs.Char.{is_ascii_digit}
use Rattle.std.specs.List.{list_all}
use Rattle.trac_space.specs.Texts.{text_of_cells}
use Rattle.trac_warnings.proofs.operands.are_digits.Given as goal

-- the cells so far are digits
abbrev pub invariant-loop-cell : goal.invariant-loop-cell
invariant-loop-cell l =
    list_all is_ascii_digit (text_of_cells (drop l.cell-index l.cells)) ≡ list_all is_ascii_digit (text_of_cells l.cells)
