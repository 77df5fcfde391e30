-- The cells before the first comma mark, as the store's crate counts them and as std does.
use Rattle.trac_events.proofs.Imports.{◌≡◌, List, [], ◌∷◌, arith, position_or_len, refl, Cell, Byte, Call, Comma, Gap, Head, is_comma}
use Rattle.trac_forms.specs.Arguments.{before_comma}

pub first_comma : (cells : List Cell) → before_comma cells ≡ position_or_len is_comma cells
first_comma [] = refl
first_comma (Byte b ∷ cells) = omega (arith, first_comma cells)
first_comma (Call mode distance ∷ cells) = omega (arith, first_comma cells)
first_comma (Comma ∷ cells) = refl
first_comma (Gap ordinal ∷ cells) = omega (arith, first_comma cells)
first_comma (Head n ∷ cells) = omega (arith, first_comma cells)
