-- Cells whose gaps are filled by what stands between the comma marks of others.
use Rattle.std.specs.Prelude.{◌≡◌, ℕ, suc, true, ◌+◌, ◌<◌, ◌≤◌, List, [], ◌∷◌, ◌++◌, length, take, drop, map}
use Rattle.std.specs.Prelude.{slice_range, slice_index_or, if◌then◌else◌, Option, MatchOption}
use Rattle.trac_space.specs.declared.cell.Cell.{Cell}
use Rattle.trac_space.specs.declared.filling.ArgumentTable.{ArgumentTable}
use Rattle.trac_space.specs.declared.cell.Cell.TheVariants.{Byte, Call, Comma, Gap, Head}
use Rattle.trac_space.specs.Cells.{is_comma}
use Rattle.trac_space.specs.Tags.{untagged, tag_of, has_tag}
use Rattle.trac_space.specs.Texts.{is_byte_cell}

-- the ordinal of a gap, 0 for any other cell
abbrev pub ordinal_of : Cell → ℕ
ordinal_of (Byte _) = 0
ordinal_of (Call _ _) = 0
ordinal_of Comma = 0
ordinal_of (Gap ordinal) = ordinal
ordinal_of (Head _) = 0

-- the parts between the comma marks of cells that stand from place `at` on; the first began at
-- `from`
abbrev pub parts_at : ℕ → ℕ → List Cell → List (ℕ × ℕ)
parts_at from at [] = (from, at) ∷ []
parts_at from at (cell ∷ cells) =
    if is_comma cell
    then (from, at) ∷ parts_at (at + 1) (at + 1) cells
    else parts_at from (at + 1) cells

-- the part of a number, from 1; a null part if there is none
abbrev pub numbered_part : List (ℕ × ℕ) → ℕ → ℕ × ℕ
numbered_part parts number = slice_index_or ((0, 0) ∷ parts) number (0, 0)

-- the cells of the part of a number
abbrev pub part_between : List Cell → ℕ → List Cell
part_between given number =
    slice_range given (numbered_part (parts_at 0 0 given) number).0 (numbered_part (parts_at 0 0 given) number).1

-- what stands for a cell: a character for itself, the part of its ordinal for any other
abbrev pub filling : List Cell → Cell → List Cell
filling given cell = if is_byte_cell cell then cell ∷ [] else part_between given (ordinal_of cell)

abbrev pub filled : List Cell → List Cell → List Cell
filled given [] = []
filled given (cell ∷ cells) = filling given cell ++ filled given cells

-- the cells have `count` comma marks, and the places of these lie over the first `count` cells
pub record HaveCommas (cells : List Cell) (count : ℕ) : Type 0 where
  pub within : count ≤ length cells
  pub others : map untagged (drop count cells) ≡ drop count cells
  pub all : length (parts_at 0 0 (map untagged cells)) ≡ suc count
  pub tagged : (k : ℕ) → k < count → has_tag (slice_index_or cells k Comma) ≡ true
  pub ends : (k : ℕ) → k < count →
      tag_of (slice_index_or cells k Comma) ≡ (numbered_part (parts_at 0 0 (map untagged cells)) (suc k)).1

-- the given cells, without the numbers that lie over them
abbrev pub table_cells : List Cell → ArgumentTable → List Cell
table_cells cells given = map untagged (slice_range cells given.start (given.start + given.len))

-- the given cells stand in a block, and the places of their comma marks lie over the first of them
pub record IsArgumentTable (cells : List Cell) (given : ArgumentTable) : Type 0 where
  pub inside : given.start + given.len ≤ length cells
  pub bounded : length cells ≤ 16777216
  pub commas : HaveCommas (slice_range cells given.start (given.start + given.len)) given.commas

-- more cells were put right before place `to`, and the result is where they begin; or they would begin before
-- place `low`
abbrev pub IsPut : List Cell → List Cell → ℕ → ℕ → List Cell → Option ℕ → Type 0
IsPut was now low to more result =
    MatchOption result
    (to < low + length more)
    (λ start. (start + length more ≡ to) × (low ≤ start) × (drop start now ≡ more ++ drop to was))

-- the cells from `from` up to `stop` can be copied to a place behind the given cells, so that the copy ends before
-- place `to` and begins at `low` or behind
pub record CanFill
    (cells : List Cell) (from stop low to : ℕ) (given : ArgumentTable) : Type 0 where
  pub order : from ≤ stop
  pub before : stop ≤ given.start
  pub behind : given.start + given.len ≤ low
  pub room : low ≤ to
  pub inside : to ≤ length cells
  pub table : IsArgumentTable cells given

-- more cells were put right before place `to`, or would begin before `low`; only the cells from `low` up to `to`
-- have changed
pub record PutsOnly
    (old new : List Cell) (low to : ℕ) (more : List Cell) (result : Option ℕ) : Type 0 where
  pub put : IsPut old new low to more result
  pub len : length new ≡ length old
  pub front : take low new ≡ take low old
  pub behind : drop to new ≡ drop to old
