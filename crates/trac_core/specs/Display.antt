-- What contracts say of the display of a form.
use Rattle.std.specs.Prelude.{Bool, false, [], ◌∷◌, Option, Some, None}
use Rattle.trac_language.specs.declared.item.Item.{Item}
use Rattle.trac_language.specs.Text.{Text}
use Rattle.trac_language.specs.Form.{Form, is_character}
use Rattle.trac_language.specs.Store.{form_named}
use Rattle.trac_language.specs.Meaning.{show, show_form}
use Rattle.trac_space.specs.declared.part.Part.{Part}
use Rattle.trac_forms.specs.Contents.{Contents, part_text}

-- whether an item is a character
abbrev pub is_byte : Option Item → Bool
is_byte None = false
is_byte (Some item) = is_character item

-- the display of an item, null where there is none
abbrev pub shown : Option Item → Text
shown None = []
shown (Some item) = show (item ∷ [])

-- the display of a form, null where there is none
abbrev pub display : Option Form → Text
display None = []
display (Some form) = show_form form

-- the display of the form that a part of the neutral string names, null where there is none
abbrev pub display_named : Contents → Part → Text
display_named w name = display (form_named (part_text w.neutral name.from name.to) w.forms)
