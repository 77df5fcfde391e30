-- Items that are put into a buffer one after the other.
use Rattle.trac_image.proofs.Imports.{◌≡◌, ℕ, zero, suc, ◌+◌, ◌<◌, ◌≤◌, List, [], ◌∷◌, ◌++◌, length, take, drop, map, min, refl, sym, ap, ◌∙◌, arith, slice_set, get_or, take_more, length-map, map-append, length-take-le, laid, laid_from}

module _ {A : Type 0} where
  pub laid-put : (x : A) (n : ℕ) (room : List A) → n < length room → slice_set room n x ≡ laid_from n (x ∷ []) room
  laid-put x zero [] lt = elim lt [ ]
  laid-put x zero (y ∷ room) lt = refl
  laid-put x (suc n) [] lt = elim lt [ ]
  laid-put x (suc n) (y ∷ room) lt = ap (λ r. y ∷ r) (laid-put x n room (omega arith))

  pub laid-behind : (xs : List A) (n : ℕ) (room : List A) → length room ≤ n → room ≡ laid_from n xs room
  laid-behind [] zero [] le = refl
  laid-behind (x ∷ xs) zero [] le = refl
  laid-behind [] zero (y ∷ room) le = elim le [ ]
  laid-behind (x ∷ xs) zero (y ∷ room) le = elim le [ ]
  laid-behind xs (suc n) [] le = refl
  laid-behind xs (suc n) (y ∷ room) le = ap (λ r. y ∷ r) (laid-behind xs n room (omega arith))

  laid-then : (xs ys : List A) (room : List A) → laid_from (length xs) ys (laid xs room) ≡ laid (xs ++ ys) room
  laid-then [] ys room = refl
  laid-then (x ∷ xs) ys [] = refl
  laid-then (x ∷ xs) ys (z ∷ room) = ap (λ r. x ∷ r) (laid-then xs ys room)

  laid-none : (xs : List A) → laid xs [] ≡ []
  laid-none [] = refl
  laid-none (x ∷ xs) = refl

  -- the front of a buffer is the front of the items, and the rest as it was
  pub laid-front : (n : ℕ) (xs room : List A) → n ≡ min (length xs) (length room) → laid xs room ≡ take n xs ++ drop n room
  laid-front zero [] room least = refl
  laid-front zero (x ∷ xs) [] least = refl
  laid-front zero (x ∷ xs) (y ∷ room) least = absurd (omega arith)
  laid-front (suc n) [] room least = absurd (omega arith)
  laid-front (suc n) (x ∷ xs) [] least = absurd (omega arith)
  laid-front (suc n) (x ∷ xs) (y ∷ room) least = ap (λ r. x ∷ r) (laid-front n xs room (omega arith))

  -- what a full buffer has no room for makes no difference
  pub laid-over : (xs more room : List A) → length room ≤ length xs → laid (xs ++ more) room ≡ laid xs room
  laid-over [] more [] le = laid-none more
  laid-over [] more (y ∷ room) le = absurd (omega arith)
  laid-over (x ∷ xs) more [] le = refl
  laid-over (x ∷ xs) more (y ∷ room) le = ap (λ r. x ∷ r) (laid-over xs more room (omega arith))

  -- items behind items that were put before
  pub laid-next : (m : ℕ) (xs ys : List A) (r r₁ r₂ : List A) → m ≡ length xs → r₁ ≡ laid xs r → r₂ ≡ laid_from m ys r₁ → r₂ ≡ laid (xs ++ ys) r
  laid-next m xs ys r r₁ r₂ place first then =
      then ∙ ap (λ k. laid_from k ys r₁) place ∙ ap (λ r. laid_from (length xs) ys r) first ∙ laid-then xs ys r

module _ {X A : Type 0} (f : X → A) (xs : List X) (r : List A) where
  -- one item more is put of a list whose items f turns into what is put
  pub laid-mapped : (i : ℕ) (d : X) (a : A) (r₁ r₂ : List A) → i < length xs → a ≡ f (get_or xs i d) → r₁ ≡ laid (map f (take i xs)) r → r₂ ≡ laid_from i (a ∷ []) r₁ → r₂ ≡ laid (map f (take (i + 1) xs)) r
  laid-mapped i d a r₁ r₂ lt same first then =
      let long : i ≡ length (map f (take i xs)) = sym (length-map (take i xs) f ∙ length-take-le i xs (omega arith)) in
      laid-next i (map f (take i xs)) (f (get_or xs i d) ∷ []) r r₁ r₂ long first (then ∙ ap (λ a. laid_from i (a ∷ []) r₁) same)
      ∙ ap (λ l. laid l r) (sym (ap (map f) (take_more xs i d lt) ∙ map-append f (take i xs) (get_or xs i d ∷ [])))

-- what doesn't fit need not be put
pub laid-enough : {X A : Type 0} (f : X → A) (i : ℕ) (xs : List X) (r : List A) → min (length xs) (length r) ≤ i → laid (map f (take i xs)) r ≡ laid (map f xs) r
laid-enough f i xs [] le = laid-none (map f (take i xs)) ∙ sym (laid-none (map f xs))
laid-enough f zero [] (y ∷ r) le = refl
laid-enough f zero (x ∷ xs) (y ∷ r) le = absurd (omega (arith, le))
laid-enough f (suc i) [] (y ∷ r) le = refl
laid-enough f (suc i) (x ∷ xs) (y ∷ r) le = ap (λ r. f x ∷ r) (laid-enough f i xs r (omega arith))
