-- What is suspicious in a text that is taken for a number.
use Rattle.std.specs.Prelude.{Bool, true, false, List, [], ◌∷◌, Option, None, Some, length, ◌==◌}
use Rattle.std.specs.Prelude.{◌&&◌, nat_le, not, option_map, if◌then◌else◌}
use Rattle.std.specs.Char.{is_ascii_digit}
use Rattle.std.specs.List.{list_all}
use Rattle.trac_language.specs.Form.{Form}
use Rattle.trac_language.specs.Text.{Text}
use Rattle.trac_language.specs.declared.arith.Arith.TheVariants.{Divide}
use Rattle.trac_language.specs.declared.function.Function.{Function}
use Rattle.trac_language.specs.declared.function.Function.TheVariants.{Arithmetic, Greater}
use Rattle.trac_space.specs.declared.cell.Cell.{Cell}
use Rattle.trac_space.specs.Texts.{text_of_cells}
use Rattle.trac_events.specs.Changes.{form_of}
use Rattle.trac_warnings.specs.declared.warning.Suspicion.{Suspicion}
use Rattle.trac_warnings.specs.declared.warning.Suspicion.TheVariants.{NoDigits, FormAsNumber, DigitsInside}

-- whether a function takes its first two arguments for numbers
abbrev pub takes_numbers : Function → Bool
takes_numbers Greater = true
takes_numbers (Arithmetic operation) = true
takes_numbers _ = false

-- whether all cells are digits
abbrev pub are_digits : List Cell → Bool
are_digits cells = list_all is_ascii_digit (text_of_cells cells)

-- whether a function adds, subtracts or multiplies
abbrev pub adds : Function → Bool
adds (Arithmetic Divide) = false
adds (Arithmetic operation) = true
adds _ = false

-- whether a text is a number: digits alone, at least one
abbrev pub is_number : Text → Bool
is_number text = not (length text == 0) && list_all is_ascii_digit text

-- whether two numbers, with a comma between them, are written as thousands: three digits behind at most three
abbrev pub are_thousands : (one other : Text) → Bool
are_thousands one other = nat_le (length one) 3 && (length other == 3)

-- what is suspicious in what stands behind the first digit of a number: another character than a digit
abbrev pub behind_digit : Text → Option Suspicion
behind_digit text = if list_all is_ascii_digit text then None else Some DigitsInside

-- what is suspicious in a text that is taken for a number: another character behind its first digit, or no digit at
-- all
abbrev pub suspicion_of_number : Text → Option Suspicion
suspicion_of_number [] = Some NoDigits
suspicion_of_number (c ∷ text) =
    if is_ascii_digit c then behind_digit text else suspicion_of_number text

-- what is suspicious in an argument that is taken for a number; nothing, if it is null
abbrev pub suspicion_of_operand : List Cell → Option Suspicion
suspicion_of_operand cells =
    if length cells == 0 then None else suspicion_of_number (text_of_cells cells)

-- whether a suspicion is that a text has no digits
abbrev pub is_no_digits : Suspicion → Bool
is_no_digits NoDigits = true
is_no_digits _ = false

-- what is suspicious in a text without digits: if a form has that name, that it is a form's
abbrev pub without_digits : Option Form → Suspicion
without_digits None = NoDigits
without_digits (Some form) = FormAsNumber

-- what is suspicious in an argument that is taken for a number, while `forms` are there
abbrev pub operand_among : List Form → List Cell → Option Suspicion
operand_among forms cells =
    option_map (λ s. if is_no_digits s then without_digits (form_of cells forms) else s)
    (suspicion_of_operand cells)
