-- Cells that all are characters.
use Rattle.std.specs.Prelude.{◌≤◌, List, length, All, ℤ}
use Rattle.trac_language.specs.Number.{number}
use Rattle.trac_language.specs.BitString.{Bits, bits}
use Rattle.trac_space.specs.declared.cell.Cell.{Cell}
use Rattle.trac_space.specs.Texts.{text_of_cells, IsByte}

-- the cells are the characters of a text that a block can hold
abbrev pub IsText : List Cell → Type 0
IsText cells = All IsByte cells × (length cells ≤ 16777216)

-- the number at the end of the text of cells
abbrev pub number_in : List Cell → ℤ
number_in cells = number (text_of_cells cells)

-- the bit string at the end of the text of cells
abbrev pub bits_in : List Cell → Bits
bits_in cells = bits (text_of_cells cells)
