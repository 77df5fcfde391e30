-- What an image tells.
use Rattle.std.specs.Prelude.{◌≡◌, ℕ, ◌<◌, List, [], ◌∷◌, length}
use Rattle.trac_language.specs.declared.item.Item.{Item}
use Rattle.trac_language.specs.declared.item.Item.TheVariants.{Byte, Gap}
use Rattle.trac_language.specs.Form.{Form}
use Rattle.trac_core.specs.Machine.{MachineState}
use Rattle.trac_image.specs.Fitting.{CanStand}
use Rattle.trac_image.specs.Image.{image_of}
use Rattle.trac_image.specs.Loading.{IsLoadable, Loads, room_for_forms}

-- each ordinal fits into four bytes
abbrev pub HaveOrdinals : List Item → Type 0
HaveOrdinals [] = Unit {0}
HaveOrdinals (Byte c ∷ items) = HaveOrdinals items
HaveOrdinals (Gap k ∷ items) = (k < 4294967296) × HaveOrdinals items

-- each number of a form fits into four bytes
pub record IsCodable (form : Form) : Type 0 where
  pub name : length form.name < 4294967296
  pub body : length form.body < 4294967296
  pub pointer : form.pointer < 4294967296
  pub ordinals : HaveOrdinals form.body

abbrev pub AreCodable : List Form → Type 0
AreCodable [] = Unit {0}
AreCodable (form ∷ forms) = IsCodable form × AreCodable forms

-- no two memories have the same image: it tells all forms, in their order, and the meta character
abbrev pub TellsForms : Type 0
TellsForms =
    (a b : List Form) → (m n : ℕ) → length a < 4294967296 → length b < 4294967296 →
    AreCodable a → AreCodable b → image_of a m ≡ image_of b n → (a ≡ b) × (m ≡ n)

-- the image of forms that can stand in a machine is taken by it, and gives the same forms, in their order, and the same
-- meta character
abbrev pub LoadsWhatWasSaved : Type 0
LoadsWhatWasSaved =
    (m : MachineState) → (forms : List Form) → (meta : ℕ) → m.room < 4294967296 → CanStand forms (room_for_forms m) →
    IsLoadable m (image_of forms meta) × ((new : MachineState) → Loads m (image_of forms meta) new →
    (new.memory.forms ≡ forms) × (new.memory.meta ≡ meta))
