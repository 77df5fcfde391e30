use Rattle.trac_values.proofs.Imports.{◌≡◌, sym, subst, length, get_or, true, ◌<◌, ℕ, is_octal, text_of_cells}
use Rattle.trac_values.proofs.SuffixCells.{back_passes}
use Rattle.trac_values.proofs.bit_string.octal_digits.Goals as goal

pub returns-clause-octal : goal.returns-clause-octal
returns-clause-octal c =
    subst (λ cells. (i : ℕ) → i < length (text_of_cells cells) → is_octal (get_or (text_of_cells cells) i 0) ≡ true) (sym c.split_at.ensures.back)
    (back_passes is_octal c.args.cells.now c.octal_digits_start.result c.octal_digits_start.ensures)
