-- Calls in a text that is printed, and line ends.
use Rattle.std.specs.Prelude.{ℕ, ◌-◌, ◌==◌, ◌&&◌, ◌||◌, Bool, false, List, [], ◌∷◌, length, if◌then◌else◌}
use Rattle.trac_language.specs.Text.{Text}
use Rattle.trac_warnings.specs.Origins.{more}
use Rattle.trac_warnings.specs.Spelling.{names_function}

-- a text without a number sign at its head, if one is there
abbrev pub behind_sign : Text → Text
behind_sign [] = []
behind_sign (c ∷ text) = if c == 35 then text else c ∷ text

-- what stands behind a left parenthesis at the head of a text; null, if none is there
abbrev pub behind_parenthesis : Text → Text
behind_parenthesis [] = []
behind_parenthesis (c ∷ text) = if c == 40 then text else []

-- whether a character is a number sign
abbrev pub is_sign : ℕ → Bool
is_sign c = c == 35

-- what stands behind the characters that open the first call of a function in a text; null, if none is in it
abbrev pub behind_call : Text → Text
behind_call [] = []
behind_call (c ∷ text) =
    let behind = behind_parenthesis (behind_sign text) in
    if (c == 35) && names_function 41 behind then behind else behind_call text

-- whether the last character of a text closes the outermost of so many open parentheses, and none before it does
abbrev pub closes_at_end : (opened : ℕ) → Text → Bool
closes_at_end opened [] = false
closes_at_end opened (c ∷ text) =
    if c == 40 then closes_at_end (more opened 1) text
    else (if c == 41 then (if opened == 1 then length text == 0 else closes_at_end (opened - 1) text)
    else closes_at_end opened text)

-- whether a line ends with CR and LF in a text, before which a CR stands or doesn't
abbrev pub has_two_at_end : (is_behind : Bool) → Text → Bool
has_two_at_end is_behind [] = false
has_two_at_end is_behind (c ∷ text) = (is_behind && (c == 10)) || has_two_at_end (c == 13) text

-- whether a text begins with CR or LF
abbrev pub begins_with_line_end : Text → Bool
begins_with_line_end [] = false
begins_with_line_end (c ∷ text) = (c == 13) || (c == 10)
