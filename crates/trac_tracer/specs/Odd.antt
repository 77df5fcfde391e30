-- What is odd about calls.
use Rattle.std.specs.Prelude.{ℕ, ◌==◌, ◌&&◌, Bool, true, false, not, List, [], ◌∷◌, Option, Some, None}
use Rattle.std.specs.Prelude.{length, nat_le, if◌then◌else◌}
use Rattle.std.specs.Prelude.{is_none}
use Rattle.trac_language.specs.Text.{Text}
use Rattle.trac_language.specs.declared.function.Function.{Function}
use Rattle.trac_language.specs.declared.function.Function.TheVariants.{CallNumber}
use Rattle.trac_language.specs.declared.function.Function.TheVariants.{InitialPart}
use Rattle.trac_language.specs.declared.function.Function.TheVariants.{Arithmetic}
use Rattle.trac_space.specs.declared.cell.Cell.{Cell}
use Rattle.trac_space.specs.Texts.{text_of_cells}
use Rattle.trac_events.specs.Calls.{argument_of}
use Rattle.trac_language.specs.Table.{traits}
use Rattle.trac_events.specs.Changes.{is_same, takes_part}
use Rattle.trac_views.specs.declared.calls.Oddity.{Oddity}
use Rattle.trac_views.specs.declared.calls.Oddity.TheVariants.{NoFunction, NoForm, Default}

-- whether a text ends in the digits of a number that isn't 0; `found`: whether the text before it did
abbrev pub has_number : Bool → Text → Bool
has_number found [] = found
has_number found (c ∷ text) =
    has_number (if c == 48 then found else (nat_le 49 c && nat_le c 57)) text

-- whether a call with this second argument asks for more than a null part
abbrev pub asks_for_part : Function → List Cell → Bool
asks_for_part CallNumber second = has_number false (text_of_cells second)
asks_for_part InitialPart second = not (length second == 0)
asks_for_part _ second = true

-- whether a call's value is its default value: for arithmetic if the two texts are equal; for a function
-- that takes a part, if more than a null part was asked for and the pointer stays
abbrev pub is_default : Function → List Cell → List Cell → Bool → Bool
is_default (Arithmetic operation) arguments value stays =
    is_same (text_of_cells value) (text_of_cells (argument_of arguments 3))
is_default function arguments value stays =
    stays && (takes_part function && asks_for_part function (argument_of arguments 2))

-- whether two pointers are equal, or both are missing
abbrev pub same_pointer : Option ℕ → Option ℕ → Bool
same_pointer None None = true
same_pointer None (Some b) = false
same_pointer (Some a) None = false
same_pointer (Some a) (Some b) = a == b

-- what is odd about a call of a function, or of none; `before` and `after` are the pointer of the form
-- that the call names, before the call and after it
abbrev pub oddity_of : Option Function → Option ℕ → List Cell → List Cell → Option ℕ → Option Oddity
oddity_of None before arguments value after =
    if length (argument_of arguments 0) == 0 then None else Some NoFunction
oddity_of (Some function) before arguments value after =
    if (traits function).needs_form && is_none before then Some NoForm
    else (if is_default function arguments value (same_pointer before after) then Some Default
    else None)
