-- The blanks and the layout around a text.
use Rattle.std.specs.Prelude.{ℕ, ◌+◌, ◌==◌, ◌||◌, Bool, List, [], ◌∷◌, take, if◌then◌else◌}
use Rattle.trac_language.specs.Rule.{is_layout}
use Rattle.trac_space.specs.declared.cell.Cell.{Cell}
use Rattle.trac_space.specs.Texts.{character_of}

-- whether a cell is a blank or layout
abbrev pub is_blank : Cell → Bool
is_blank cell = (character_of cell == 32) || is_layout (character_of cell)

-- the cells behind the blanks and the layout at their head
abbrev pub behind_blanks : List Cell → List Cell
behind_blanks [] = []
behind_blanks (cell ∷ cells) = if is_blank cell then behind_blanks cells else cell ∷ cells

-- the place behind the last of the cells that is no blank and no layout, for cells that begin at `place`; `end`, if
-- there is none
abbrev pub end_behind : (end place : ℕ) → List Cell → ℕ
end_behind end place [] = end
end_behind end place (cell ∷ cells) =
    end_behind (if is_blank cell then end else place + 1) (place + 1) cells

-- the cells before the blanks and the layout at their end
abbrev pub before_blanks : List Cell → List Cell
before_blanks cells = take (end_behind 0 0 cells) cells

-- the cells without the blanks and the layout around them
abbrev pub trimmed : List Cell → List Cell
trimmed cells = before_blanks (behind_blanks cells)
