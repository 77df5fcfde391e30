-- The name and the text of a new form, two parts of neutral.
use Rattle.std.specs.Prelude.{ℕ, ◌+◌, ◌-◌, List}
use Rattle.trac_space.specs.declared.cell.Cell.{Cell}
use Rattle.trac_space.specs.declared.part.Part.{Part}
use Rattle.trac_store.specs.Parts.{IsTextPart}

-- `name` and `text` are parts of the neutral string that have characters alone
pub record AreNameAndText (neutral : List Cell) (name text : Part) : Type 0 where
  pub name_part : IsTextPart neutral name.from name.to
  pub text_part : IsTextPart neutral text.from text.to

-- how many cells a form of this name and this text has
abbrev pub cells_for : Part → Part → ℕ
cells_for name text = 3 + (name.to - name.from) + (text.to - text.from)
