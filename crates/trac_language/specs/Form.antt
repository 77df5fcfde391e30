-- Items and forms.
use Rattle.std.specs.Prelude.{ℕ, Bool, true, false, List, [], ◌∷◌, ◌++◌, map, take, drop, get_or}
use Rattle.trac_language.specs.declared.item.Item.{Item}
use Rattle.trac_language.specs.declared.item.Item.TheVariants.{Byte, Gap}
use Rattle.trac_language.specs.Text.{Text}

-- a name, a body and a pointer, which is a place from 0 to the number of items
pub record Form : Type 0 where
  pub name : Text
  pub body : List Item
  pub pointer : ℕ

-- whether an item is a character
abbrev pub is_character : Item → Bool
is_character (Byte c) = true
is_character (Gap k) = false

-- the text of the items without the gaps
abbrev pub text_of : List Item → Text
text_of [] = []
text_of (Byte c ∷ items) = c ∷ text_of items
text_of (Gap k ∷ items) = text_of items

-- the characters of a text, as items
abbrev pub items_of : Text → List Item
items_of text = map Byte text

-- the items before the pointer
abbrev pub before_pointer : Form → List Item
before_pointer form = take form.pointer form.body

-- the items after the pointer
abbrev pub after_pointer : Form → List Item
after_pointer form = drop form.pointer form.body

-- each character as it is, each gap k replaced by the k-th text, or by nothing if there is none
abbrev pub fill : List Text → List Item → Text
fill texts [] = []
fill texts (Byte c ∷ items) = c ∷ fill texts items
fill texts (Gap k ∷ items) = get_or ([] ∷ texts) k [] ++ fill texts items
