-- What stands in a buffer that was filled from the front.
use Rattle.std.specs.Prelude.{◌≡◌, ℕ, zero, suc, List, [], ◌∷◌, length}

-- items over the front of a buffer, as many as fit, and the rest of it as it was
abbrev pub laid : {A : Type 0} → List A → List A → List A
laid [] room = room
laid (x ∷ xs) [] = []
laid (x ∷ xs) (y ∷ room) = x ∷ laid xs room

-- items over a buffer from a place on, as many as fit, and all else of it as it was
abbrev pub laid_from : {A : Type 0} → ℕ → List A → List A → List A
laid_from zero xs room = laid xs room
laid_from (suc n) xs [] = []
laid_from (suc n) xs (y ∷ room) = y ∷ laid_from n xs room

-- `answer` is how many `items` there are, and the buffer `old` has become `new`, with what fits of them at its front
pub record Lays (items : List ℕ) (answer : ℕ) (old new : List ℕ) : Type 0 where
  pub length : answer ≡ length items
  pub laid : new ≡ laid items old
