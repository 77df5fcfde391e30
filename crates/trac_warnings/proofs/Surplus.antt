-- Calls of `cl` that give a form no argument.
use Rattle.std.proofs.Common.{◌≡◌, ◌≤◌, ◌+◌, ℕ, zero, suc, List, [], ◌∷◌, length, None, arith, refl}
use Rattle.std.specs.Prelude.{slice_get}
use Rattle.trac_language.specs.Text.{Text}
use Rattle.trac_warnings.specs.Performed.{argument_warnings, arguments_given}
use Rattle.trac_warnings.specs.declared.performed.Ending.{Ending}

beyond : {A : Type 0} (xs : List A) (k : ℕ) → length xs ≤ k → slice_get xs k ≡ None
beyond [] k less = refl
beyond (x ∷ xs) zero less = absurd (omega arith)
beyond (x ∷ xs) (suc k) less = beyond xs k (omega (arith, less))

-- there is no warning of the arguments of a call that gives none
pub no_surplus : (gaps : ℕ) (name : Text) (ending : Ending) → length ending.places.now ≤ 1 → arguments_given ending ≡ 0 → argument_warnings gaps name ending ≡ []
no_surplus gaps name ending few none =
    rw (none, beyond ending.places.now (gaps + 1) (omega (arith, few))) refl
