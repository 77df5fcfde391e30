-- Forms of an image that can stand in a machine.
use Rattle.std.specs.Prelude.{ℕ, zero, suc, ◌-◌, ◌≤◌, List, [], ◌∷◌, All}
use Rattle.trac_language.specs.Text.{Text}
use Rattle.trac_language.specs.Form.{Form}
use Rattle.trac_language.specs.Store.{IsStore, NoneNamed, cells, form_cells}
use Rattle.trac_image.specs.Reading.{GapsFit, HasParts, behind_form, form_in, heads_in}

-- the form at the front of a text is whole, its pointer is a place of its body, and its gaps have ordinals from 1 to
-- 16,777,216
pub record IsFit (t : Text) : Type 0 where
  pub parts : HasParts t
  pub pointer : (heads_in t).pointer ≤ (heads_in t).body
  pub gaps : GapsFit (form_in t).body

-- so many forms are, and have at most `room` cells
abbrev pub AreFit : ℕ → (room : ℕ) → Text → Type 0
AreFit zero room t = Unit {0}
AreFit (suc n) room t =
    IsFit t × (form_cells (form_in t) ≤ room) × AreFit n (room - form_cells (form_in t)) (behind_form t)

-- no two forms have one name
abbrev pub AreDistinct : List Form → Type 0
AreDistinct [] = Unit {0}
AreDistinct (form ∷ forms) = NoneNamed form.name forms × AreDistinct forms

-- forms that can stand in a machine with so much room for them: no two have one name, each pointer is a place of its
-- body, each gap has an ordinal from 1 to 16,777,216, and they fit
pub record CanStand (forms : List Form) (room : ℕ) : Type 0 where
  pub store : IsStore forms
  pub gaps : All (λ (form : Form). GapsFit form.body) forms
  pub fit : cells forms ≤ room
