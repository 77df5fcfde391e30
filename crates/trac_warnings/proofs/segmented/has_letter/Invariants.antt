use Rattle.std.proofs.Common.{◌≡◌, drop}
use Rattle.std.specs.Char.{is_ascii_alphabetic}
use Rattle.std.specs.List.{list_any}
use Rattle.trac_space.specs.Texts.{text_of_cells}
use Rattle.trac_warnings.proofs.segmented.has_letter.Given as goal

-- no letter stands in the text so far
abbrev pub invariant-loop-cell : goal.invariant-loop-cell
invariant-loop-cell l =
    list_any is_ascii_alphabetic (text_of_cells (drop l.cell-index l.text)) ≡ list_any is_ascii_alphabetic (text_of_cells l.text)
