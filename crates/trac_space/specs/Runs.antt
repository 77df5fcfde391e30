-- Runs of characters, by a table of what becomes of each.
use Rattle.std.specs.Prelude.{ℕ, ◌+◌, ◌≤◌, ◌==◌, ◌++◌, List, map, take, drop, get_or, if◌then◌else◌}
use Rattle.trac_space.specs.declared.cell.Cell.{Cell}
use Rattle.trac_space.specs.declared.cell.Cell.TheVariants.{Byte, Comma}
use Rattle.trac_space.specs.Texts.{character_of}

-- the number that the table has for the character in a cell
abbrev pub number_in : List ℕ → Cell → ℕ
number_in table cell = get_or table (character_of cell) 0

-- the cell belongs to a run: its number in the table is 0 or 1
abbrev pub IsInRun : List ℕ → Cell → Type 0
IsInRun table cell = number_in table cell ≤ 1

-- what becomes of a cell in a run: with the number 0 the character stays as it is, with 1 it becomes a comma mark
abbrev pub turned_by : List ℕ → Cell → Cell
turned_by table cell =
    if number_in table cell == 0 then Byte (character_of cell) else Comma

abbrev pub turned : List ℕ → List Cell → List Cell
turned table cells = map (turned_by table) cells

-- `cells` with the first n of `others` in place of those from `place` on
abbrev pub with_cells_at : List Cell → ℕ → List Cell → ℕ → List Cell
with_cells_at cells place others n = (take place cells ++ take n others) ++ drop (place + n) cells
