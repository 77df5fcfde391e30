-- The rules of scanning once more, each by what it asks of the active string.
use Rattle.std.specs.Prelude.{◌≡◌, ◌≢◌, ℕ, [], ◌∷◌, ◌++◌, codes, ◌⊎◌}
use Rattle.trac_language.specs.declared.mode.Mode.TheVariants.{Active, Neutral}
use Rattle.trac_language.specs.Text.{Text}
use Rattle.trac_language.specs.Rule.{Rule, LoadIdling, DeleteLayout, AddProtected, ClearActive}
use Rattle.trac_language.specs.Rule.{BeginArgument, BeginCall, EndCall, AddCharacter}
use Rattle.trac_laws.specs.Balance.{IsProtected}

-- a tab, a line feed or a carriage return
abbrev pub IsLayout : ℕ → Type 0
IsLayout c = (c ≡ 9) ⊎ ((c ≡ 10) ⊎ (c ≡ 13))

-- the character is no parenthesis, no comma and no layout
pub record IsOrdinary (c : ℕ) : Type 0 where
  pub opens : c ≢ 40
  pub closes : c ≢ 41
  pub comma : c ≢ 44
  pub tab : c ≢ 9
  pub feed : c ≢ 10
  pub back : c ≢ 13

-- `text` begins with `start`
abbrev pub Begins : Text → Text → Type 0
Begins start text = (rest : Text) × (text ≡ start ++ rest)

-- a character that no other rule takes: an ordinary one, and no number sign that begins a call
pub record IsAdded (text : Text) (c : ℕ) (rest : Text) : Type 0 where
  pub stands : text ≡ c ∷ rest
  pub ordinary : IsOrdinary c
  pub active : Begins (codes "#(") text → ⊥
  pub neutral : Begins (codes "##(") text → ⊥

-- a left parenthesis that has no match
pub record IsUnmatched (text : Text) : Type 0 where
  pub opens : Begins (codes "(") text
  pub none : (inside rest : Text) → IsProtected text inside rest → ⊥

-- the rule fits the active string
abbrev pub Fits : Text → Rule → Type 0
Fits text LoadIdling = text ≡ []
Fits text (DeleteLayout rest) = (c : ℕ) × (IsLayout c × (text ≡ c ∷ rest))
Fits text (AddProtected inside rest) = IsProtected text inside rest
Fits text ClearActive = IsUnmatched text
Fits text (BeginArgument rest) = text ≡ codes "," ++ rest
Fits text (BeginCall Active rest) = text ≡ codes "#(" ++ rest
Fits text (BeginCall Neutral rest) = text ≡ codes "##(" ++ rest
Fits text (EndCall rest) = text ≡ codes ")" ++ rest
Fits text (AddCharacter c rest) = IsAdded text c rest
