use Rattle.std.proofs.Common.{◌≡◌, drop}
use Rattle.std.specs.List.{list_any}
use Rattle.trac_space.specs.Texts.{text_of_cells}
use Rattle.trac_warnings.specs.Printed.{is_sign}
use Rattle.trac_warnings.proofs.printed.has_sign.Given as goal

-- no number sign stands in the text so far
abbrev pub invariant-loop-cell : goal.invariant-loop-cell
invariant-loop-cell l =
    list_any is_sign (text_of_cells (drop l.cell-index l.cells)) ≡ list_any is_sign (text_of_cells l.cells)
