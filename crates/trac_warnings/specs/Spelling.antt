-- What is nearly the beginning of a call.
use Rattle.std.specs.Prelude.{ℕ, ◌==◌, ◌&&◌, ◌||◌, Bool, false, not, [], ◌∷◌}
use Rattle.std.specs.Prelude.{Option, None, Some, is_some, if◌then◌else◌}
use Rattle.trac_language.specs.Function.{function_named}
use Rattle.trac_language.specs.Rule.{is_layout}
use Rattle.trac_language.specs.Text.{Text}
use Rattle.trac_warnings.specs.declared.warning.Suspicion.{Suspicion}
use Rattle.trac_warnings.specs.declared.warning.Suspicion.TheVariants.{Colon, Blank, Bracket}

-- whether a text begins with the name of a function and, behind it, a comma or the given parenthesis
abbrev pub names_function : ℕ → Text → Bool
names_function parenthesis (a ∷ b ∷ c ∷ text) =
    ((c == 44) || (c == parenthesis)) && is_some (function_named (a ∷ b ∷ []))
names_function parenthesis text = false

-- whether a text begins with `parenthesis` and the name of a function, which a comma or `other` ends
abbrev pub opens : ℕ → ℕ → Text → Bool
opens parenthesis other [] = false
opens parenthesis other (c ∷ text) = (c == parenthesis) && names_function other text

-- what stands behind the blanks and the layout at the head of a text
abbrev pub behind_blanks : Text → Text
behind_blanks [] = []
behind_blanks (c ∷ text) = if (c == 32) || is_layout c then behind_blanks text else c ∷ text

-- what is nearly the beginning of a call behind a number sign
abbrev pub behind_sign : Text → Option Suspicion
behind_sign text =
    if opens 91 93 text then Some Bracket
    else (if not (opens 40 41 text) && opens 40 41 (behind_blanks text) then Some Blank else None)

-- what is nearly the beginning of a call at the head of a text
abbrev pub spelling_of : Text → Option Suspicion
spelling_of [] = None
spelling_of (c ∷ text) =
    if (c == 58) && opens 40 41 text then Some Colon
    else (if c == 35 then behind_sign text else None)
