-- A name by its number, seen by its characters.
use Rattle.std.proofs.Common.{◌≡◌, ℕ, zero, suc, List, [], ◌∷◌}
use Rattle.std.specs.Prelude.{MatchOption, slice_get}
use Rattle.std.specs.declared.vec.Vec.{Vec}
use Rattle.trac_language.specs.Text.{Text}
use Rattle.trac_checker.specs.Warned.{name_in, names_of}

pub named : {A : Type 0} (names : List (Vec ℕ A)) (number : ℕ) (text : Text) → MatchOption (slice_get names number) (text ≡ []) (λ name. text ≡ name.items)
    → text ≡ name_in (slice_get (names_of names) number)
named [] number text is = is
named (name ∷ names) zero text is = is
named (name ∷ names) (suc number) text is = named names number text is
