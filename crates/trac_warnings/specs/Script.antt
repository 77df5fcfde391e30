-- What is suspicious in how a script is written.
use Rattle.std.specs.Prelude.{ℕ, ◌+◌, ◌==◌, ◌&&◌, ◌||◌, Bool, true, false, not, nat_le, nat_lt, List, [], ◌∷◌}
use Rattle.std.specs.Prelude.{◌++◌, ◌-◌, length, take, Option, None, Some, if◌then◌else◌, is_some}
use Rattle.std.specs.List.{ends_with, list_any}
use Rattle.std.specs.Char.{is_ascii_alphanumeric}
use Rattle.trac_language.specs.Rule.{is_layout}
use Rattle.trac_language.specs.Text.{Text}
use Rattle.trac_warnings.specs.Origins.{in_input, more}
use Rattle.trac_warnings.specs.Spelling.{names_function, spelling_of}
use Rattle.trac_warnings.specs.Strings.{begins_with_mark}
use Rattle.trac_warnings.specs.Watched.{Said}
use Rattle.trac_warnings.specs.declared.warning.Suspicion.{Suspicion}
use Rattle.trac_warnings.specs.declared.warning.Suspicion.TheVariants.{Mark, OtherMeta, LineNumbers}
use Rattle.trac_warnings.specs.declared.warning.Suspicion.TheVariants.{Bracket, NoNumberSign}

-- the warning of a text at a place of the input
abbrev pub at_place : Suspicion → ℕ → Text → Said
at_place suspicion place text =
    record { origin = in_input place; suspicion = suspicion; count = 0; text = text }

-- the warning of a byte order mark
abbrev pub mark_warnings : Text → List Said
mark_warnings input = if begins_with_mark input then at_place Mark 0 [] ∷ [] else []

-- the place and the byte of the last byte of a text that is no layout and no blank, for a text that stands at
-- `place`; `last` if the text has none
abbrev pub last_seen : Option (ℕ × ℕ) → ℕ → Text → Option (ℕ × ℕ)
last_seen last place [] = last
last_seen last place (c ∷ text) =
    last_seen (if is_layout c || (c == 32) then last else Some (place, c)) (place + 1) text

-- a byte and its place, unless the byte is a letter, a digit or a right parenthesis
abbrev pub as_meta : Option (ℕ × ℕ) → Option (ℕ × ℕ)
as_meta None = None
as_meta (Some last) = if is_ascii_alphanumeric last.1 || (last.1 == 41) then None else Some last

-- where the typographic apostrophe stands, in UTF-8, that a text ends with, where `last` is the last byte of the text
-- that is no layout and no blank, and its place
abbrev pub curly_before : Option (ℕ × ℕ) → Text → Option ℕ
curly_before None text = None
curly_before (Some last) text =
    if ends_with (λ a b. a == b) (take (last.0 + 1) text) (226 ∷ 128 ∷ 153 ∷ []) then Some (last.0 - 2) else None

-- where the typographic apostrophe stands that a text ends with, apart from layout and blanks
abbrev pub curly_end : Text → Option ℕ
curly_end text = curly_before (last_seen None 0 text) text

-- the byte that seems to end the strings of a script without any apostrophe, and its place
abbrev pub other_meta : Text → Option (ℕ × ℕ)
other_meta input =
    if list_any (λ c. c == 39) input || is_some (curly_end input) then None
    else as_meta (last_seen None 0 input)

-- the warning of a byte that seems to end the strings of a script
abbrev pub meta_warnings : Option (ℕ × ℕ) → List Said
meta_warnings None = []
meta_warnings (Some found) = at_place OtherMeta found.0 (found.1 ∷ []) ∷ []

-- what stands behind the digits at the head of a text
abbrev pub behind_digits : Text → Text
behind_digits [] = []
behind_digits (c ∷ text) = if nat_le 48 c && nat_le c 57 then behind_digits text else c ∷ text

-- whether a text begins with a blank and what opens a call or a protected text
abbrev pub opens_line : Text → Bool
opens_line (a ∷ b ∷ text) = (a == 32) && ((b == 35) || (b == 40) || (b == 58))
opens_line text = false

-- whether a line begins with a number and, behind a blank, with a call or a parenthesis
abbrev pub is_numbered : Text → Bool
is_numbered line =
    nat_lt (length (behind_digits line)) (length line) && opens_line (behind_digits line)

-- the warning of `count` numbered lines, of which the first begins at `first`; none of fewer than three
abbrev pub few_lines : Option ℕ → ℕ → List Said
few_lines None count = []
few_lines (Some first) count = if nat_le 3 count then at_place LineNumbers first [] ∷ [] else []

-- the place that was found first, or `place` if none was found
abbrev pub first_of : Option ℕ → ℕ → Option ℕ
first_of None place = Some place
first_of (Some first) place = Some first

-- the warning of numbered lines, of which `count` stand before a text at `place`, the first at `first`; `is_head`:
-- the text begins a line
abbrev pub numbered_lines : Option ℕ → ℕ → Bool → ℕ → Text → List Said
numbered_lines first count is_head place [] = few_lines first count
numbered_lines first count is_head place (c ∷ text) =
    if is_head && is_numbered (c ∷ text)
    then numbered_lines (first_of first place) (more count 1) (c == 10) (place + 1) text
    else numbered_lines first count (c == 10) (place + 1) text

-- the warning of the head of a text at a place: of what is nearly the beginning of a call, or of a
-- parenthesis before the name of a function, unless it was warned of or a number sign stands before it
abbrev pub spelled_at : Option Suspicion → (is_reported is_behind_sign : Bool) → ℕ → Text → List Said
spelled_at (Some suspicion) is_reported is_behind_sign place text = at_place suspicion place [] ∷ []
spelled_at None is_reported is_behind_sign place [] = []
spelled_at None is_reported is_behind_sign place (c ∷ text) =
    if (c == 40) && ((not is_reported && not is_behind_sign) && names_function 44 text)
    then at_place NoNumberSign place (take 2 text) ∷ [] else []

-- whether the next parenthesis behind the character c was warned of already
abbrev pub reported_behind : Option Suspicion → Bool → ℕ → Bool
reported_behind (Some Bracket) is_reported c = false
reported_behind (Some suspicion) is_reported c = true
reported_behind None is_reported c = not (c == 40) && is_reported

-- the warnings of the spelling of a text at a place of the input
abbrev pub spelled : (is_reported is_behind_sign : Bool) → ℕ → Text → List Said
spelled is_reported is_behind_sign place [] = []
spelled is_reported is_behind_sign place (c ∷ text) =
    spelled_at (spelling_of (c ∷ text)) is_reported is_behind_sign place (c ∷ text)
    ++ spelled (reported_behind (spelling_of (c ∷ text)) is_reported c) (c == 35) (place + 1) text

-- the warnings of a script
abbrev pub script_warnings : Text → List Said
script_warnings input =
    mark_warnings input ++ (meta_warnings (other_meta input)
    ++ (numbered_lines None 0 true 0 input ++ spelled false false 0 input))
