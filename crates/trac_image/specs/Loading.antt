-- An image that a machine takes.
use Rattle.std.specs.Prelude.{◌≡◌, ℕ, ◌+◌, ◌-◌, List, []}
use Rattle.trac_language.specs.Text.{Text}
use Rattle.trac_language.specs.Form.{Form}
use Rattle.trac_language.specs.State.{size}
use Rattle.trac_language.specs.Store.{cells}
use Rattle.trac_core.specs.Machine.{MachineState}
use Rattle.trac_image.specs.Fitting.{AreDistinct, AreFit, CanStand}
use Rattle.trac_image.specs.Image.{IsContent, image_of}
use Rattle.trac_image.specs.Reading.{behind_forms, forms_in}

-- the cells that the strings of a machine leave for forms
abbrev pub room_for_forms : MachineState → ℕ
room_for_forms m = m.room + cells m.memory.forms - size m.memory

-- the bytes are the image of these forms and this meta character, and the forms can stand in the machine in the place
-- of its own
pub record IsImage (m : MachineState) (bytes : Text) (forms : List Form) (meta : ℕ) : Type 0 where
  pub image : bytes ≡ image_of forms meta
  pub stand : CanStand forms (room_for_forms m)

-- the bytes are such an image
abbrev pub IsLoadable : MachineState → Text → Type 0
IsLoadable m bytes = (forms : List Form) × ((meta : ℕ) × IsImage m bytes forms meta)

-- the machine with other forms and another meta character: its strings, its counters and its fate are the same
abbrev pub with_image : List Form → (meta : ℕ) → MachineState → MachineState
with_image forms meta m = record m { memory = record m.memory { forms = forms; meta = meta } }

-- `new` has the forms and the meta character of which the bytes are the image, in the place of those of `old`
pub record Loads (old : MachineState) (bytes : Text) (new : MachineState) : Type 0 where
  pub image : IsImage old bytes new.memory.forms new.memory.meta
  pub rest : new ≡ with_image new.memory.forms new.memory.meta old

-- the bytes hold this meta character and so many forms, which can stand in a machine with so much room for them
pub record IsFitContent (room : ℕ) (bytes : Text) (meta count : ℕ) (forms : Text) : Type 0 where
  pub content : IsContent bytes meta count forms
  pub fit : AreFit count room forms
  pub distinct : AreDistinct (forms_in count forms)
  pub last : behind_forms count forms ≡ []
