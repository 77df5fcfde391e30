use Rattle.std.proofs.Common.{◌≡◌, drop}
use Rattle.std.specs.Char.{is_ascii_lowercase}
use Rattle.std.specs.List.{list_all}
use Rattle.trac_space.specs.Texts.{text_of_cells}
use Rattle.trac_warnings.proofs.inside.is_small.Given as goal

-- all characters so far are small letters
abbrev pub invariant-loop-cell : goal.invariant-loop-cell
invariant-loop-cell l =
    list_all is_ascii_lowercase (text_of_cells (drop l.cell-index l.text)) ≡ list_all is_ascii_lowercase (text_of_cells l.text)
