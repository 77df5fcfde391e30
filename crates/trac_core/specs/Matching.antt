-- The search for the right parenthesis that matches.
use Rattle.std.specs.Prelude.{◌≡◌, ℕ, ◌+◌, [], take, drop, ◌==◌, if◌then◌else◌}
use Rattle.trac_space.specs.declared.cell.Cell.{Cell}
use Rattle.trac_space.specs.Texts.{character_of}
use Rattle.trac_language.specs.Text.{Text}
use Rattle.trac_language.specs.Protected.{count, split_at_match}

-- the search has passed i characters without a match, and `depth` left parentheses are open there
pub record IsAt (text : Text) (i depth : ℕ) : Type 0 where
  pub none : split_at_match [] text ≡ split_at_match (take i text) (drop i text)
  pub open_is : depth + count 41 (take i text) ≡ count 40 (take i text)

-- 1 for a left parenthesis, 16 for a right one, 0 for the rest
abbrev pub side_of : ℕ → ℕ
side_of c = if c == 40 then 1 else (if c == 41 then 16 else 0)

-- 1 for a cell with a left parenthesis, 16 for one with a right one, 0 for the rest
abbrev pub side_in : Cell → ℕ
side_in cell = side_of (character_of cell)
