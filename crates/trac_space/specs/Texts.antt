-- The cells that stand for texts.
use Rattle.std.specs.Prelude.{ℕ, Bool, true, false, T, List, map, slice_index_or}
use Rattle.trac_language.specs.Text.{Text}
use Rattle.trac_space.specs.declared.cell.Cell.{Cell}
use Rattle.trac_space.specs.declared.cell.Cell.TheVariants.{Byte, Call, Comma, Gap, Head}

-- the characters of a text, as cells
abbrev pub flat_text : Text → List Cell
flat_text text = map Byte text

-- the character of a cell, 0 for a cell that is no character
abbrev pub character_of : Cell → ℕ
character_of (Byte c) = c
character_of (Call mode distance) = 0
character_of Comma = 0
character_of (Gap k) = 0
character_of (Head n) = 0

-- the text of cells that all are characters
abbrev pub text_of_cells : List Cell → Text
text_of_cells cells = map character_of cells

-- whether the cell is a character
abbrev pub is_byte_cell : Cell → Bool
is_byte_cell (Byte _) = true
is_byte_cell (Call _ _) = false
is_byte_cell Comma = false
is_byte_cell (Gap _) = false
is_byte_cell (Head _) = false

-- the cell is a character
abbrev pub IsByte : Cell → Type 0
IsByte cell = T (is_byte_cell cell)

-- the number of a cell's kind, 0 for a character
abbrev pub kind_number : Cell → ℕ
kind_number (Byte _) = 0
kind_number (Call _ _) = 1
kind_number Comma = 2
kind_number (Gap _) = 3
kind_number (Head _) = 4

-- whether a character stands at the place
abbrev pub byte_cell_at : List Cell → ℕ → Bool
byte_cell_at cells i = is_byte_cell (slice_index_or cells i Comma)
