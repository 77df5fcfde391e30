-- Changes of a machine from outside, without a step.
use Rattle.std.specs.Prelude.{ℕ, ◌+◌, ◌-◌, ◌≤◌, List, length, map, All, nat_lt}
use Rattle.std.specs.Prelude.{if◌then◌else◌}
use Rattle.trac_language.specs.declared.item.Item.{Item}
use Rattle.trac_language.specs.declared.item.Item.TheVariants.{Byte, Gap}
use Rattle.trac_language.specs.Text.{Text}
use Rattle.trac_language.specs.Form.{Form}
use Rattle.trac_language.specs.State.{size}
use Rattle.trac_core.specs.Machine.{MachineState}
-- the forms at their places, and a form that is given, as the crate of the forms defines them
pub use Rattle.trac_forms.specs.Contents.{IsNamedAt}
pub use Rattle.trac_forms.specs.Given.{given, with_form}

-- the item of a code: a byte as it is, and 255 + n for the gap with ordinal n
abbrev pub item_of_code : ℕ → Item
item_of_code code = if nat_lt code 256 then Byte code else Gap (code - 255)

-- the items of the codes of a body
abbrev pub items_of_codes : List ℕ → List Item
items_of_codes codes = map item_of_code codes

-- the code is that of an item: that of the gap with ordinal 16,777,216 is the greatest
abbrev pub IsCode : ℕ → Type 0
IsCode code = code ≤ 16777471

-- a form of a name and a body of these lengths fits beside all forms of the machine and its strings
abbrev pub HasRoomFor : MachineState → (name body : ℕ) → Type 0
HasRoomFor m name body = size m.memory + (3 + name + body) ≤ m.room

-- a form of this name, these codes and this pointer can be defined: each code is that of an item, the pointer
-- is a place of the body, and the form fits
pub record IsDefinable (m : MachineState) (name : Text) (codes : List ℕ) (pointer : ℕ) : Type 0 where
  pub codes_fit : All IsCode codes
  pub pointer_within : pointer ≤ length codes
  pub fits : HasRoomFor m (length name) (length codes)

-- the machine with other forms: its strings, its meta character, its counters and its fate are the same
abbrev pub with_forms : List Form → MachineState → MachineState
with_forms forms m = record m { memory = record m.memory { forms = forms } }
