-- The places of the marks of calls, put one after the other.
use Rattle.trac_c.proofs.Imports.{◌≡◌, ℕ, ◌+◌, List, [], ◌∷◌, ◌++◌, ◌≤◌, ◌∙◌, length, take, sym, ap, arith, ⊎_elim, length-take-le, take_more, laid, laid_from}
use Rattle.std.specs.Prelude.{None, Some, slice_get}
use Rattle.std.proofs.lemmas.List.{take_all}
use Rattle.std.proofs.lemmas.Option.{get_or_from_slice_get, slice_get-get_or, slice_get_within}
use Rattle.std.proofs.lemmas.Bool.{cases_lt}
use Rattle.trac_c.proofs.Buffers.{laid-next}

module _ (places : List ℕ) (count : ℕ) where
  -- the next place is put
  pub place-laid : (place : ℕ) (room r₁ r₂ : List ℕ) → slice_get places count ≡ Some place → r₁ ≡ laid (take count places) room → r₂ ≡ laid_from count (place ∷ []) r₁ → r₂ ≡ laid (take (count + 1) places) room
  place-laid place room r₁ r₂ is first then =
      let few = slice_get_within places count place is in
      let cell = get_or_from_slice_get places count place 0 is in
      laid-next count (take count places) (place ∷ []) room r₁ r₂ (sym (length-take-le count places (omega (arith, few)))) first then
      ∙ ap (λ l. laid l room) (ap (λ k. take count places ++ k ∷ []) (sym cell) ∙ sym (take_more places count 0 few))

  -- where none is left all are put
  pub places-all : count ≤ length places → slice_get places count ≡ None → (count ≡ length places) × (take count places ≡ places)
  places-all few none =
      let all : count ≡ length places = omega (arith, few, past none) in
      (all, take_all count places (omega (arith, all)))
    where
      past : slice_get places count ≡ None → length places ≤ count
      past none = ⊎_elim (λ more. absurd (let both = sym (slice_get-get_or places count 0 more) ∙ none in cc)) (λ le. le) (cases_lt count (length places))
