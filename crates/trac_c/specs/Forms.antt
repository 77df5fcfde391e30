-- What C sees of a form.
use Rattle.std.specs.Prelude.{ℕ, ◌+◌, min, List, [], map, Option, Some, None}
use Rattle.trac_language.specs.declared.item.Item.{Item}
use Rattle.trac_language.specs.declared.item.Item.TheVariants.{Byte, Gap}
use Rattle.trac_language.specs.Text.{Text}
use Rattle.trac_language.specs.Form.{Form}
use Rattle.trac_language.specs.Meaning.{show_form}

-- the name of a form, null where there is none
abbrev pub name_of : Option Form → Text
name_of None = []
name_of (Some form) = form.name

-- the display of a form, null where there is none
abbrev pub display_of : Option Form → Text
display_of None = []
display_of (Some form) = show_form form

-- the code of an item: a byte as it is, a gap as 255 more than its ordinal, as far as 32 bits go
abbrev pub item_code : Item → ℕ
item_code (Byte c) = c
item_code (Gap k) = min (k + 255) 4294967295

-- the code of an item, 0 where it is missing
abbrev pub code_of : Option Item → ℕ
code_of None = 0
code_of (Some item) = item_code item

-- the codes of a form's body, none where there is no form
abbrev pub codes_of : Option Form → List ℕ
codes_of None = []
codes_of (Some form) = map item_code form.body

-- the pointer of a form, 0 where there is none
abbrev pub pointer_of : Option Form → ℕ
pointer_of None = 0
pointer_of (Some form) = form.pointer
