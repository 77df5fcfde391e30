-- A text whose lines are folded.
use Rattle.std.proofs.Common.{◌≡◌, ℕ, List, [], ◌∷◌, ap, refl}
use Rattle.trac_views.specs.Lines.{column_behind, folded_text}

-- with no bound a text is as it is
pub folded-none : (text : List ℕ) (at : ℕ) → folded_text 0 at text ≡ text
folded-none [] at = refl
folded-none (b ∷ text) at = ap (λ t. b ∷ t) (folded-none text (column_behind 0 at b))
