-- The forms of a `Work`, read one after the other.
use Rattle.std.specs.Prelude.{ℕ, ◌≤◌, List, length, map}
use Rattle.trac_language.specs.Form.{Form}
use Rattle.trac_language.specs.Store.{IsStore}
use Rattle.trac_space.specs.declared.cell.Cell.{Cell}
use Rattle.trac_space.specs.Cells.{seen}
use Rattle.trac_space.specs.Texts.{text_of_cells}
use Rattle.trac_store.specs.Stored.{item_of, forms_in, AreCellsOfForms}

-- the form whose name and body are the cells `name` and `body`
abbrev pub form_of : List Cell → List Cell → ℕ → Form
form_of name body pointer =
    record { name = text_of_cells name; body = map item_of body; pointer = pointer }

-- the cells are those of `count` forms, as a store may hold them
pub record IsListed (cells : List Cell) (count : ℕ) : Type 0 where
  pub forms : AreCellsOfForms cells count
  pub store : IsStore (forms_in (map seen cells))

-- `name` and `body` are short enough for a form, and `pointer` is a place of the body
pub record IsForm (name body : List Cell) (pointer : ℕ) : Type 0 where
  pub name_bounded : length name ≤ 16777216
  pub body_bounded : length body ≤ 16777216
  pub pointer_within : pointer ≤ length body
