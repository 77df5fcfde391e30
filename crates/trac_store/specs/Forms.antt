-- The forms of a list, by their places.
use Rattle.std.specs.Prelude.{◌≡◌, ℕ, ◌<◌, List, [], length, slice_index_or}
use Rattle.trac_language.specs.declared.item.Item.{Item}
use Rattle.trac_language.specs.Text.{Text}
use Rattle.trac_language.specs.Form.{Form}

-- the form at a place
abbrev pub form_at : List Form → ℕ → Form
form_at forms k = slice_index_or forms k (record { name = []; body = []; pointer = 0 })

-- the name of the form at a place; below, its body and its pointer
abbrev pub name_at : List Form → ℕ → Text
name_at forms k = (form_at forms k).name

abbrev pub body_at : List Form → ℕ → List Item
body_at forms k = (form_at forms k).body

abbrev pub pointer_at : List Form → ℕ → ℕ
pointer_at forms k = (form_at forms k).pointer

-- the form at the place has the name
pub record IsNamedAt (forms : List Form) (name : Text) (k : ℕ) : Type 0 where
  pub within : k < length forms
  pub named : name_at forms k ≡ name
