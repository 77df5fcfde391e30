use Rattle.trac_values.proofs.Imports.{◌≡◌, sym, subst, length, get_or, true, ◌<◌, ℕ, is_ascii_digit, text_of_cells}
use Rattle.trac_values.proofs.SuffixCells.{back_passes}
use Rattle.trac_values.proofs.digits.split_digits.Goals as goal

pub returns-clause-passes : goal.returns-clause-passes
returns-clause-passes c =
    subst (λ cells. (i : ℕ) → i < length (text_of_cells cells) → is_ascii_digit (get_or (text_of_cells cells) i 0) ≡ true) (sym c.split_at.ensures.back)
    (back_passes is_ascii_digit c.args.cells.now c.digits_start.result c.digits_start.ensures)
