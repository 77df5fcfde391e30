-- The first items of a list, and one more.
use Rattle.std.proofs.Common.{◌≡◌, ◌<◌, ◌+◌, ◌∙◌, ℕ, zero, suc, ap, refl, List, [], ◌∷◌, ◌++◌, length, take, drop, Some, None, arith}
use Rattle.std.specs.Prelude.{slice_get, option_to_list}

module _ {A : Type 0} where
  next : (xs : List A) (k : ℕ) (x : A) → slice_get xs k ≡ Some x → take (suc k) xs ≡ take k xs ++ x ∷ []
  next [] k x is = absurd cc
  next (y ∷ xs) zero x is = ap option_to_list is
  next (y ∷ xs) (suc k) x is = ap (λ t. y ∷ t) (next xs k x is)

  pub grown : (xs : List A) (k : ℕ) (x : A) → slice_get xs k ≡ Some x → take (k + 1) xs ≡ take k xs ++ x ∷ []
  grown xs k x is = let e : k + 1 ≡ suc k = omega arith in ap (λ n. take n xs) e ∙ next xs k x is

  pub is_there : (xs : List A) (k : ℕ) → slice_get xs k ≡ None → k < length xs → ⊥
  is_there [] k is less = omega arith
  is_there (y ∷ xs) zero is less = absurd cc
  is_there (y ∷ xs) (suc k) is less = is_there xs k is (omega arith)

  at : (xs : List A) (k : ℕ) (x : A) → slice_get xs k ≡ Some x → drop k xs ≡ x ∷ drop (suc k) xs
  at [] k x is = absurd cc
  at (y ∷ xs) zero x is = ap (λ t. t ++ xs) (ap option_to_list is)
  at (y ∷ xs) (suc k) x is = at xs k x is

  pub head_is : (xs : List A) (k : ℕ) (x : A) → slice_get xs k ≡ Some x → drop k xs ≡ x ∷ drop (k + 1) xs
  head_is xs k x is = let e : suc k ≡ k + 1 = omega arith in at xs k x is ∙ ap (λ n. x ∷ drop n xs) e

  pub is_inside : (xs : List A) (k : ℕ) (x : A) → slice_get xs k ≡ Some x → k < length xs
  is_inside [] k x is = absurd cc
  is_inside (y ∷ xs) zero x is = omega arith
  is_inside (y ∷ xs) (suc k) x is = omega (arith, is_inside xs k x is)

  pub none_left : (xs : List A) (k : ℕ) → slice_get xs k ≡ None → drop k xs ≡ []
  none_left [] zero is = refl
  none_left [] (suc k) is = refl
  none_left (y ∷ xs) zero is = absurd cc
  none_left (y ∷ xs) (suc k) is = none_left xs k is
