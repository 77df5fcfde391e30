-- Cells that all are digits, and numbers up to a limit.
use Rattle.std.specs.Prelude.{◌≡◌, ℕ, ◌+◌, ◌-◌, Bool, true, List, ◌++◌, length, take, replicate}
use Rattle.std.specs.Prelude.{EachIndex, slice_index, ℤ, pos, neg_ℤ, if◌then◌else◌, flat_map}
use Rattle.std.specs.Char.{is_ascii_digit}
use Rattle.std.specs.Str.Parse.{digits_value}
use Rattle.trac_language.specs.Text.{Text}
use Rattle.trac_language.specs.BitString.{Bits, is_octal, bits_of_digit}
use Rattle.trac_space.specs.declared.cell.Cell.{Cell}
use Rattle.trac_space.specs.Texts.{text_of_cells}

-- each character passes the test
abbrev pub EachIs : (ℕ → Bool) → Text → Type 0
EachIs p text = EachIndex text (λ k. p (slice_index text k) ≡ true)

-- the cells are decimal digits
abbrev pub IsDecimal : List Cell → Type 0
IsDecimal cells = EachIs is_ascii_digit (text_of_cells cells)

-- the number of cells that are decimal digits
abbrev pub decimal_value : List Cell → ℕ
decimal_value cells = digits_value 10 (text_of_cells cells)

-- the cells are octal digits
abbrev pub IsOctal : List Cell → Type 0
IsOctal cells = EachIs is_octal (text_of_cells cells)

-- the bits of cells that are octal digits
abbrev pub bits_of_cells : List Cell → Bits
bits_of_cells cells = flat_map bits_of_digit (text_of_cells cells)

-- the number of a sign and a size
abbrev pub signed : Bool → ℕ → ℤ
signed negative size = if negative then neg_ℤ (pos size) else pos size

-- a text filled with the digit 0 at the left, up to `long` digits
abbrev pub padded_text : ℕ → Text → Text
padded_text long text = replicate (long - length text) 48 ++ text

-- the value of the digits before a place of a number that is filled with zeros at the left up to `long`
-- digits
abbrev pub value_upto : Text → ℕ → ℕ → ℕ
value_upto digits long place = digits_value 10 (take (place + length digits - long) digits)
