-- Items of a list by what is left behind those in front.
use Rattle.trac_core.proofs.Imports.{◌≡◌, ℕ, zero, suc, ◌≤◌, List, [], ◌∷◌, drop, slice_get, Some, None, refl, arith}

module _ {A : Type 0} where
  -- nothing is left, so no item stands there or behind
  pub get-none : (l : List A) (n k : ℕ) → drop n l ≡ [] → n ≤ k → slice_get l k ≡ None
  get-none [] n k none le = refl
  get-none (x ∷ l) zero k none le = absurd cc
  get-none (x ∷ l) (suc n) zero none le = absurd (omega arith)
  get-none (x ∷ l) (suc n) (suc k) none le = get-none l n k none (omega arith)

  -- the first of what is left
  pub get-first : (l : List A) (n : ℕ) (x : A) (rest : List A) → drop n l ≡ x ∷ rest → slice_get l n ≡ Some x
  get-first [] zero x rest left = absurd cc
  get-first [] (suc n) x rest left = absurd cc
  get-first (y ∷ l) zero x rest left = cc
  get-first (y ∷ l) (suc n) x rest left = get-first l n x rest left
