-- Balanced texts, and the text that matching parentheses protect.
use Rattle.std.specs.Prelude.{◌≡◌, ℕ, ◌≤◌, ◌∷◌, ◌++◌, take}
use Rattle.trac_language.specs.Text.{Text}
use Rattle.trac_language.specs.Protected.{count}

-- a text has as many left as right parentheses, and no prefix of it has more right than left ones
pub record IsBalanced (text : Text) : Type 0 where
  pub same : count 40 text ≡ count 41 text
  pub prefixes : (n : ℕ) → count 41 (take n text) ≤ count 40 (take n text)

-- the text begins with a left parenthesis, the protected text
-- and the right parenthesis that matches; the rest follows
pub record IsProtected (text inside rest : Text) : Type 0 where
  pub stands : text ≡ 40 ∷ (inside ++ 41 ∷ rest)
  pub balanced : IsBalanced inside
