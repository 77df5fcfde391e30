-- What a call makes of forms.
use Rattle.std.specs.Prelude.{ℕ, Bool, true, false, List, Option, None, option_map, bytes_eq, if◌then◌else◌}
use Rattle.std.specs.List.{list_all}
use Rattle.trac_language.specs.declared.function.Function.{Function}
use Rattle.trac_language.specs.declared.table.Concerned.{Concerned}
use Rattle.trac_language.specs.declared.table.Concerned.TheVariants.{Nothing}
use Rattle.trac_language.specs.declared.table.Given.{Given}
use Rattle.trac_language.specs.declared.table.Given.TheVariants.{Part}
use Rattle.trac_language.specs.Table.{traits}
use Rattle.trac_language.specs.Text.{Text}
use Rattle.trac_language.specs.Form.{Form}
use Rattle.trac_language.specs.Store.{form_named}
use Rattle.trac_space.specs.declared.cell.Cell.{Cell}
use Rattle.trac_space.specs.Texts.{is_byte_cell, text_of_cells}

-- the forms that a call of a function can make, change or remove
abbrev pub touched_by : Function → Concerned
touched_by function = if (traits function).changes_forms then (traits function).forms else Nothing

-- whether what a call gives is a part of a form
abbrev pub is_part : Given → Bool
is_part Part = true
is_part _ = false

-- whether the value of a function is a part of a form, or its default value
abbrev pub takes_part : Function → Bool
takes_part function = is_part (traits function).gives

-- the form whose name the cells are; none if a cell is no character
abbrev pub form_of : List Cell → List Form → Option Form
form_of name forms =
    if list_all is_byte_cell name then form_named (text_of_cells name) forms else None

-- the pointer of the form whose name the cells are
abbrev pub pointer_of : List Cell → List Form → Option ℕ
pointer_of name forms = option_map (λ form. form.pointer) (form_of name forms)

-- whether two texts are the same
abbrev pub is_same : Text → Text → Bool
is_same a b = bytes_eq a b
