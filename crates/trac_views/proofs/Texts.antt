-- The texts of more cells, and of more bytes.
use Rattle.std.proofs.Common.{◌≡◌, ◌∙◌, ◌<◌, ℕ, List, [], ◌∷◌, ◌++◌, length, take, ◌+◌, ap, sym, append_assoc, append-nil, get_or, Result, Ok, Err}
use Rattle.std.specs.Result.{OnOk}
use Rattle.std.proofs.lemmas.List.{take_more}

-- texts that are made one after the other
module _ {X : Type 0} (one : X → List ℕ) (all : List X → List ℕ) (none : [] ≡ all []) (next : (x : X) (xs : List X) → all (x ∷ xs) ≡ one x ++ all xs) where
  all-append : (xs ys : List X) → all (xs ++ ys) ≡ all xs ++ all ys
  all-append [] ys = ap (λ t. t ++ all ys) none
  all-append (x ∷ xs) ys =
      next x (xs ++ ys) ∙ ap (λ t. one x ++ t) (all-append xs ys) ∙ sym (append_assoc (one x) (all xs) (all ys)) ∙ sym (ap (λ t. t ++ all ys) (next x xs))

  -- the text so far and the next
  pub text-more : (old : List ℕ) (xs : List X) (k : ℕ) (d : X) → k < length xs → (old ++ all (take k xs)) ++ one (get_or xs k d) ≡ old ++ all (take (k + 1) xs)
  text-more old xs k d within =
      let last : all (get_or xs k d ∷ []) ≡ one (get_or xs k d) = next (get_or xs k d) [] ∙ sym (ap (λ t. one (get_or xs k d) ++ t) none) ∙ append-nil (one (get_or xs k d)) in
      append_assoc old (all (take k xs)) (one (get_or xs k d))
      ∙ ap (λ t. old ++ t) (ap (λ t. all (take k xs) ++ t) (sym last) ∙ sym (ap all (take_more xs k d within) ∙ all-append (take k xs) (get_or xs k d ∷ [])))

-- a text and then more, put one after the other
pub after : (old mid new text more : List ℕ) → mid ≡ old ++ text → new ≡ mid ++ more → new ≡ old ++ (text ++ more)
after old mid new text more first then = then ∙ ap (λ t. t ++ more) first ∙ append_assoc old text more

-- what follows from what an Ok says
pub on_ok : {T E : Type 0} (r : Result T E) (P Q : Type 0) → (P → Q) → OnOk r P → OnOk r Q
on_ok (Ok v) P Q f p = f p
on_ok (Err e) P Q f p = tt
