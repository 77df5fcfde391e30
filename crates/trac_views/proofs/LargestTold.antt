-- The lines of the largest forms, one more or no more.
use Rattle.std.proofs.Common.{suc, ◌≡◌, ◌∙◌, ◌<◌, ◌+◌, ◌-◌, ◌++◌, ap, sym, ℕ, List, [], Option, Some, None, append_assoc, append-nil, arith}
use Rattle.std.specs.Option.{option_map_or}
use Rattle.trac_language.specs.Form.{Form}
use Rattle.trac_views.specs.declared.largest.SizedForm.{SizedForm}
use Rattle.trac_views.specs.Largest.{form_at_text, largest_text, next_largest}

module _ (width told : ℕ) (last : Option SizedForm) (forms : List Form) (whole now : List ℕ) (low : told < 5)
    (so_far : now ++ largest_text width (5 - told) last forms ≡ whole) where
  abbrev rest : Option SizedForm → List ℕ
  rest found = option_map_or (λ next. form_at_text width next 0 forms ++ largest_text width (5 - (told + 1)) (Some next) forms) found []

  split : now ++ rest (next_largest last 0 forms None) ≡ whole
  split =
      let one : 5 - told ≡ suc (5 - (told + 1)) = omega (arith, low) in
      sym (ap (λ n. now ++ largest_text width n last forms) one) ∙ so_far

  -- the next one was told
  pub told_one : (next : SizedForm) (new : List ℕ) → next_largest last 0 forms None ≡ Some next → new ≡ now ++ form_at_text width next 0 forms
      → new ++ largest_text width (5 - (told + 1)) (Some next) forms ≡ whole
  told_one next new found is =
      ap (λ t. t ++ largest_text width (5 - (told + 1)) (Some next) forms) is
      ∙ append_assoc now (form_at_text width next 0 forms) (largest_text width (5 - (told + 1)) (Some next) forms)
      ∙ sym (ap (λ o. now ++ rest o) found) ∙ split

  -- no form is left to tell
  pub told_all : next_largest last 0 forms None ≡ None → now ≡ whole
  told_all none = sym (append-nil now) ∙ sym (ap (λ o. now ++ rest o) none) ∙ split
