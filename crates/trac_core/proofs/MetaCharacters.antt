-- Texts with and without the meta character, and a text that is read.
use Rattle.trac_core.proofs.Imports.{◌≡◌, ℕ, suc, ◌+◌, ◌≤◌, Bool, true, false, not, ◌||◌, cond, [], ◌∷◌, ◌++◌, length, take, drop, refl, ap, ◌∙◌, arith, before_first, position_or_len, list_any, take_at, drop_at, length-take-le, take-length, drop-length, Text, or_parts, or_right}

module _ (p : ℕ → Bool) where
  none-head : (c : ℕ) (text : Text) → list_any p (c ∷ text) ≡ false → p c ≡ false
  none-head c text h = (or_parts (p c) (list_any p text) h).0

  none-tail : (c : ℕ) (text : Text) → list_any p (c ∷ text) ≡ false → list_any p text ≡ false
  none-tail c text h = (or_parts (p c) (list_any p text) h).1

  -- no place passes
  pub position-none : (text : Text) → list_any p text ≡ false → position_or_len p text ≡ length text
  position-none [] h = refl
  position-none (c ∷ text) h = let rest = position-none text (none-tail c text h) in ap (λ b. cond (not b) (1 + position_or_len p text) 0) (none-head c text h) ∙ omega arith

  -- the place after a text that doesn't pass
  pub position-at : (text : Text) (c : ℕ) (rest : Text) → list_any p text ≡ false → p c ≡ true → position_or_len p (text ++ c ∷ rest) ≡ length text
  position-at [] c rest h passes = ap (λ b. cond (not b) (1 + position_or_len p rest) 0) passes
  position-at (x ∷ text) c rest h passes = let later = position-at text c rest (none-tail x text h) passes in ap (λ b. cond (not b) (1 + position_or_len p (text ++ c ∷ rest)) 0) (none-head x text h) ∙ omega arith

  pub position-past : (text : Text) (c : ℕ) (rest : Text) → list_any p text ≡ false → p c ≡ false → length text + 1 ≤ position_or_len p (text ++ c ∷ rest)
  position-past [] c rest h passes = let e : position_or_len p (c ∷ rest) ≡ 1 + position_or_len p rest = ap (λ b. cond (not b) (1 + position_or_len p rest) 0) passes in omega arith
  position-past (x ∷ text) c rest h passes =
      let later = position-past text c rest (none-tail x text h) passes in
      let e : position_or_len p (x ∷ (text ++ c ∷ rest)) ≡ 1 + position_or_len p (text ++ c ∷ rest) = ap (λ b. cond (not b) (1 + position_or_len p (text ++ c ∷ rest)) 0) (none-head x text h) in
      omega arith

  pub position-within : (text : Text) → position_or_len p text ≤ length text
  position-within [] = omega arith
  position-within (c ∷ text) = go (p c) (position-within text)
    where
      go : (b : Bool) → position_or_len p text ≤ length text → cond (not b) (1 + position_or_len p text) 0 ≤ suc (length text)
      go true h = omega arith
      go false h = omega arith

  pub before-none : (text : Text) → list_any p text ≡ false → before_first p text ≡ text
  before-none text h = ap (λ n. take n text) (position-none text h) ∙ take-length text

  pub from-none : (text : Text) → list_any p text ≡ false → drop (position_or_len p text) text ≡ []
  from-none text h = ap (λ n. drop n text) (position-none text h) ∙ drop-length text

  pub before-at : (text : Text) (c : ℕ) (rest : Text) → list_any p text ≡ false → p c ≡ true → before_first p (text ++ c ∷ rest) ≡ text
  before-at text c rest h passes = ap (λ n. take n (text ++ c ∷ rest)) (position-at text c rest h passes) ∙ take_at text (c ∷ rest) (length text) refl

  pub from-at : (text : Text) (c : ℕ) (rest : Text) → list_any p text ≡ false → p c ≡ true → drop (position_or_len p (text ++ c ∷ rest)) (text ++ c ∷ rest) ≡ c ∷ rest
  from-at text c rest h passes = ap (λ n. drop n (text ++ c ∷ rest)) (position-at text c rest h passes) ∙ drop_at text (c ∷ rest) (length text) refl

  pub length-before : (text : Text) → length (before_first p text) ≡ position_or_len p text
  length-before text = length-take-le (position_or_len p text) text (position-within text)

  pub any-at : (text : Text) (c : ℕ) (rest : Text) → p c ≡ true → list_any p (text ++ c ∷ rest) ≡ true
  any-at [] c rest passes = ap (λ b. b || list_any p rest) passes
  any-at (x ∷ text) c rest passes = or_right (p x) (list_any p (text ++ c ∷ rest)) (any-at text c rest passes)
