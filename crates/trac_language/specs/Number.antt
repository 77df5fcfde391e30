-- The number at the end of a text, of any length, and arithmetic within the range.
use Rattle.std.specs.Prelude.{ℕ, ◌-◌, ◌^◌, Bool, ◌&&◌, ◌||◌, take, drop, length, ℤ, pos, ◌+ℤ◌}
use Rattle.std.specs.Prelude.{◌-ℤ◌, ◌*ℤ◌, neg_ℤ, Option, Some, None, ◌==◌, nat_lt}
use Rattle.std.specs.Prelude.{if◌then◌else◌, slice_index, int_div, unsigned_abs}
use Rattle.std.specs.List.{suffix_len}
use Rattle.std.specs.Char.{is_ascii_digit}
use Rattle.std.specs.Str.Parse.{digits_value}
use Rattle.trac_language.specs.declared.arith.Arith.{Arith}
use Rattle.trac_language.specs.declared.arith.Arith.TheVariants.{Add, Subtract, Multiply, Divide}
use Rattle.trac_language.specs.Text.{Text}

-- the longest suffix of decimal digits
abbrev pub digits : Text → Text
digits text = drop (length text - suffix_len is_ascii_digit text) text

-- the text before its longest suffix of decimal digits
abbrev pub before_digits : Text → Text
before_digits text = take (length text - suffix_len is_ascii_digit text) text

-- whether the last character of the text is c
abbrev pub ends_with : ℕ → Text → Bool
ends_with c text = nat_lt 0 (length text) && (slice_index text (length text - 1) == c)

-- the number, negative if a minus sign stands just before the digits
abbrev pub number : Text → ℤ
number text =
    if ends_with 45 (before_digits text) then neg_ℤ (pos (digits_value 10 (digits text)))
    else pos (digits_value 10 (digits text))

-- the text without a sign at its end
abbrev pub without_sign : Text → Text
without_sign text =
    if ends_with 43 text || ends_with 45 text then take (length text - 1) text else text

-- the text before the number and its sign; the whole text if there are no digits
abbrev pub prefix : Text → Text
prefix text = if length (digits text) == 0 then text else without_sign (before_digits text)

-- whether a number is in the range of arithmetic
abbrev pub in_range : ℤ → Bool
in_range n = nat_lt (unsigned_abs n) (2 ^ 127)

-- the result in whole numbers without bound; none for a divisor of 0
abbrev pub exactly : Arith → ℤ → ℤ → Option ℤ
exactly Add m n = Some (m +ℤ n)
exactly Subtract m n = Some (m -ℤ n)
exactly Multiply m n = Some (m *ℤ n)
exactly Divide m n = if unsigned_abs n == 0 then None else Some (int_div m n)

-- a result that is in the range
abbrev pub if_in_range : Option ℤ → Option ℤ
if_in_range None = None
if_in_range (Some n) = if in_range n then Some n else None

-- the result; none if an operand or the result is outside the range, or the divisor is 0
abbrev pub arith : Arith → ℤ → ℤ → Option ℤ
arith operation m n =
    if in_range m && in_range n then if_in_range (exactly operation m n) else None
