-- The place behind a text in two parts.
use Rattle.std.proofs.Common.{◌≡◌, ◌∙◌, ◌≤◌, ◌-◌, ◌+◌, List, [], ◌∷◌, ◌++◌, refl, ap, sym, ℕ, take, drop, arith}
use Rattle.std.proofs.Math.Seq.{take-add}
use Rattle.trac_events.specs.declared.place.Place.{Place}
use Rattle.trac_events.specs.Places.{behind, behind_text}

in_parts : (place : Place) (a b : List ℕ) → behind_text (behind_text place a) b ≡ behind_text place (a ++ b)
in_parts place [] b = refl
in_parts place (c ∷ a) b = in_parts (behind place c) a b

-- behind the first bytes of a text, and those that follow
pub placed : (place : Place) (text : List ℕ) (from to : ℕ) → from ≤ to → behind_text (behind_text place (take from text)) (take (to - from) (drop from text)) ≡ behind_text place (take to text)
placed place text from to low =
    let e : from + (to - from) ≡ to = omega (arith, low) in
    in_parts place (take from text) (take (to - from) (drop from text))
    ∙ ap (behind_text place) (sym (take-add from (to - from) text) ∙ ap (λ n. take n text) e)
