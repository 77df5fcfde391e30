-- Parts of a string that are texts.
use Rattle.std.specs.Prelude.{ℕ, ◌≤◌, List, length, map, slice_range, All}
use Rattle.trac_language.specs.Text.{Text}
use Rattle.trac_language.specs.Form.{Form, items_of}
use Rattle.trac_space.specs.declared.cell.Cell.{Cell}
use Rattle.trac_space.specs.Texts.{text_of_cells, IsByte}

-- a and b are the ends of a part of the cells
pub record IsPart (cells : List Cell) (a b : ℕ) : Type 0 where
  pub order : a ≤ b
  pub within : b ≤ length cells

-- the cells from a up to b are characters
pub record IsTextPart (string : List Cell) (a b : ℕ) : Type 0 where
  pub order : a ≤ b
  pub within : b ≤ length string
  pub bytes : All IsByte (slice_range string a b)

-- the text of the part of a string from a up to b
abbrev pub part_text : List Cell → ℕ → ℕ → Text
part_text string a b = text_of_cells (slice_range string a b)

-- each of the parts of a string has characters alone
abbrev pub AreTextParts : List Cell → List (ℕ × ℕ) → Type 0
AreTextParts string parts = All (λ part. IsTextPart string part.0 part.1) parts

-- the texts of the parts of a string
abbrev pub part_texts : List Cell → List (ℕ × ℕ) → List Text
part_texts string parts = map (λ part. part_text string part.0 part.1) parts

-- a form whose name stands in a string from a up to b, and whose body from `from` up to `to`, with pointer 0
abbrev pub new_form : List Cell → ℕ → ℕ → ℕ → ℕ → Form
new_form string a b from to = record {
  name = part_text string a b;
  body = items_of (part_text string from to);
  pointer = 0;
}
