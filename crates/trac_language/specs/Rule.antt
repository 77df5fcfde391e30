-- The rules of scanning: which one fits the beginning of the active string.
use Rattle.std.specs.Prelude.{ℕ, Bool, ◌||◌, [], ◌∷◌, drop, Option, Some, None, ◌==◌}
use Rattle.std.specs.Prelude.{if◌then◌else◌, codes, bytes_eq, take}
use Rattle.trac_language.specs.declared.mode.Mode.{Mode}
use Rattle.trac_language.specs.declared.mode.Mode.TheVariants.{Active, Neutral}
use Rattle.trac_language.specs.Text.{Text}
use Rattle.trac_language.specs.Protected.{protected}

-- each rule of scanning, with what it takes and what it leaves of the active string
pub data Rule : Type 0 where
  -- the active string is empty
  LoadIdling : Rule
  -- a tab, line feed or carriage return
  DeleteLayout : (rest : Text) → Rule
  -- a left parenthesis with its match
  AddProtected : (inside rest : Text) → Rule
  -- a left parenthesis without a match
  ClearActive : Rule
  -- a comma
  BeginArgument : (rest : Text) → Rule
  -- a number sign, or two, and a left parenthesis
  BeginCall : (mode : Mode) (rest : Text) → Rule
  -- a right parenthesis
  EndCall : (rest : Text) → Rule
  -- any other character
  AddCharacter : (c : ℕ) (rest : Text) → Rule

-- the rule for an active string that begins with a left parenthesis, by its protected text and the rest
abbrev pub parenthesis_rule : Option (Text × Text) → Rule
parenthesis_rule None = ClearActive
parenthesis_rule (Some parts) = AddProtected parts.0 parts.1

-- the rule for an active string that begins with a number sign, by the text behind that sign
abbrev pub number_sign_rule : Text → Rule
number_sign_rule text =
    if bytes_eq (take 1 text) (codes "(") then BeginCall Active (drop 1 text)
    else (if bytes_eq (take 2 text) (codes "#(") then BeginCall Neutral (drop 2 text)
    else AddCharacter 35 text)

-- whether a character is layout: a tab, a line feed or a carriage return
abbrev pub is_layout : ℕ → Bool
is_layout c = (c == 9) || (c == 10) || (c == 13)

-- the rule that fits an active string
unfoldable pub rule : Text → Rule
rule [] = LoadIdling
rule (c ∷ rest) =
    if is_layout c then DeleteLayout rest
    else (if c == 40 then parenthesis_rule (protected rest)
    else (if c == 44 then BeginArgument rest
    else (if c == 35 then number_sign_rule rest
    else (if c == 41 then EndCall rest
    else AddCharacter c rest))))
