-- Characters of cells, as bytes.
use Rattle.std.specs.Prelude.{◌≡◌, ℕ, List, length, take}
use Rattle.trac_language.specs.Text.{Text}
use Rattle.trac_space.specs.declared.cell.Cell.{Cell}
use Rattle.trac_space.specs.Texts.{text_of_cells}

-- the first i bytes are the characters of the first i cells, and there are as many bytes as cells
pub record AreWritten (i : ℕ) (text : List Cell) (bytes : Text) : Type 0 where
  pub written : take i bytes ≡ text_of_cells (take i text)
  pub long : length bytes ≡ length text
