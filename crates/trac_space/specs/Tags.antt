-- Numbers that lie over the cells of a text for a while, and the cells under them.
use Rattle.std.specs.Prelude.{◌≡◌, ℕ, ◌/◌, ◌%◌, ◌++◌, ◌≤◌, Bool, true, false, List, take, drop, map}
use Rattle.std.specs.Prelude.{slice_index_or, slice_range}
use Rattle.trac_space.specs.declared.cell.Cell.{Cell}
use Rattle.trac_space.specs.declared.cell.Cell.TheVariants.{Byte, Call, Comma, Gap, Head}
use Rattle.trac_space.specs.Cells.{is_comma}

-- the cell can take a number: it is a character or a comma mark
abbrev pub takes_tag : Cell → Bool
takes_tag (Byte _) = true
takes_tag (Call _ _) = false
takes_tag Comma = true
takes_tag (Gap _) = false
takes_tag (Head _) = false

-- the cell under a number
abbrev pub untagged : Cell → Cell
untagged (Byte c) = Byte c
untagged (Call mode n) = Call mode n
untagged Comma = Comma
untagged (Gap _) = Comma
untagged (Head x) = Byte (x % 256)

-- the number over a cell, 0 if none lies there
abbrev pub tag_of : Cell → ℕ
tag_of (Byte _) = 0
tag_of (Call _ _) = 0
tag_of Comma = 0
tag_of (Gap x) = x / 256
tag_of (Head x) = x / 256

-- a number lies over the cell
abbrev pub has_tag : Cell → Bool
has_tag (Byte _) = false
has_tag (Call _ _) = false
has_tag Comma = false
has_tag (Gap _) = true
has_tag (Head _) = true

-- the cell is a comma mark, with or without a tag
abbrev pub holds_comma : Cell → Bool
holds_comma cell = is_comma (untagged cell)

-- from the place on no cell is a comma mark, with or without a tag
abbrev pub NoCommaFrom : ℕ → List Cell → Type 0
NoCommaFrom place cells =
    (k : ℕ) → place ≤ k → holds_comma (slice_index_or cells k (Byte 0)) ≡ false

-- numbers lie over the cells from a up to b, and nothing else has changed
abbrev pub HaveTags : List Cell → List Cell → ℕ → ℕ → Type 0
HaveTags was now a b = take a now ++ map untagged (slice_range now a b) ++ drop b now ≡ was
