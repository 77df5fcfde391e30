-- Changes from outside that C makes to a machine that it keeps.
use Rattle.std.specs.Prelude.{◌≡◌, ℕ, ◌-◌, ◌<◌, ◌≤◌, ◌⊎◌, true, List, length, is_some}
use Rattle.trac_language.specs.Text.{Text}
use Rattle.trac_language.specs.Form.{Form}
use Rattle.trac_language.specs.Store.{NoneNamed, defined, form_named, without}
use Rattle.trac_core.specs.Machine.{MachineState}
use Rattle.trac_core.specs.Changing.{HasRoomFor, IsDefinable, IsNamedAt, given, items_of_codes}
use Rattle.trac_core.specs.Changing.{with_form, with_forms}

-- a change that is possible is made, with the answer 0; else the answer is 9, and nothing has changed
abbrev pub Answered : Type 0 → (changed old : MachineState) → (answer : ℕ) → MachineState → Type 0
Answered Possible changed old answer new =
    (Possible × (answer ≡ 0) × (new ≡ changed)) ⊎ ((Possible → ⊥) × (answer ≡ 9) × (new ≡ old))

-- a form of a name, codes and a pointer is defined
abbrev pub Defined :
    (name : Text) → List ℕ → (pointer : ℕ) → MachineState → (answer : ℕ) → MachineState → Type 0
Defined name codes pointer old =
    Answered (IsDefinable old name codes pointer)
    (with_forms (with_form (given name (items_of_codes codes) pointer) old.memory.forms) old) old

-- a form of a name and a text is defined
abbrev pub TextDefined : (name body : Text) → MachineState → (answer : ℕ) → MachineState → Type 0
TextDefined name body old =
    Answered (HasRoomFor old (length name) (length body))
    (with_forms (defined name body old.memory.forms) old) old

-- the form of a name is removed, if there is one
abbrev pub Deleted : Text → MachineState → (answer : ℕ) → MachineState → Type 0
Deleted name old =
    Answered (is_some (form_named name old.memory.forms) ≡ true)
    (with_forms (without name old.memory.forms) old) old

-- a byte becomes the meta character
abbrev pub MetaSet : ℕ → MachineState → (answer : ℕ) → MachineState → Type 0
MetaSet byte old =
    Answered (byte ≤ 255) (record old { memory = record old.memory { meta = byte } }) old

-- `number` is one more than the place of the form of this name, or 0 where no form has it
pub record IsNumberOf (name : Text) (forms : List Form) (number : ℕ) : Type 0 where
  pub none : number ≡ 0 → NoneNamed name forms
  pub named : 0 < number → IsNamedAt forms name (number - 1)
