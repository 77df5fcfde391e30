-- The arguments of a call in neutral: what stands between comma marks.
use Rattle.std.specs.Prelude.{slice_get, Some, Option, MatchOption, ◌≡◌, ℕ, suc, ◌+◌, ◌<◌, ◌≤◌, ◌++◌, List, [], All}
use Rattle.std.specs.Prelude.{◌∷◌, length, map, slice_range, nat_le}
use Rattle.std.specs.Prelude.{if◌then◌else◌}
use Rattle.trac_language.specs.Text.{Text}
use Rattle.trac_language.specs.Form.{fill}
use Rattle.trac_space.specs.declared.cell.Cell.{Cell}
use Rattle.trac_space.specs.declared.cell.Cell.TheVariants.{Head}
use Rattle.trac_space.specs.Cells.{is_comma}
use Rattle.trac_space.specs.Filled.{parts_at}
use Rattle.trac_space.specs.Lists.{Lists, used, reserved}
use Rattle.trac_space.specs.Texts.{flat_text, IsByte}
use Rattle.trac_store.specs.Parts.{AreTextParts, part_texts}
use Rattle.trac_store.specs.Stored.{head_at, item_of}

-- how many cells stand before the first comma mark
abbrev pub before_comma : List Cell → ℕ
before_comma [] = 0
before_comma (cell ∷ cells) = if is_comma cell then 0 else suc (before_comma cells)

-- the parts of the neutral string between the comma marks from `from` up to `end`; none if `from` is past `end`
abbrev pub parts_between : List Cell → ℕ → ℕ → List (ℕ × ℕ)
parts_between neutral from end =
    if nat_le from end then parts_at from from (slice_range neutral from end) else []

-- the texts between the comma marks of the neutral string from `from` up to `end`
abbrev pub texts_between : List Cell → ℕ → ℕ → List Text
texts_between neutral from end = part_texts neutral (parts_between neutral from end)

-- comma marks part the cells of the neutral string from `from` up to `end` into texts
pub record AreParted (neutral : List Cell) (from end : ℕ) : Type 0 where
  pub order : from ≤ end + 1
  pub within : end ≤ length neutral
  pub bounded : end ≤ 16777216
  pub texts : AreTextParts neutral (parts_between neutral from end)

-- the text was put before the active string, and `result` is how many characters it has; or it didn't fit, and
-- only the index area may have changed
abbrev pub LoadsText : Lists → Lists → Text → Option ℕ → Type 0
LoadsText old new text result =
    MatchOption result
    ((new ≡ record old { index_area = new.index_area }) × (old.room < used old + length text))
    (λ n. (length text ≡ n) × (used old + n ≤ old.room)
    × (new ≡ record old { active = flat_text text ++ old.active; index_area = new.index_area }))

-- the cells of the store from `from` up to `to` are characters, and were put before the active string, and
-- `result` is how many they are; or nothing has changed
abbrev pub LoadsCharacters : Lists → Lists → ℕ → ℕ → Option ℕ → Type 0
LoadsCharacters old new from to result =
    MatchOption result (new ≡ old)
    (λ n. All IsByte (slice_range old.store from to) × (from + n ≡ to) × (used old + n ≤ old.room)
    × (new ≡ record (reserved n old) { active = slice_range old.store from to ++ old.active }))

-- a head cell stands at place i
abbrev pub IsHeadAt : List Cell → ℕ → Type 0
IsHeadAt cells i = slice_get cells i ≡ Some (Head (head_at cells i))

-- the text of the items in the store from `place` up to `stop`, their gaps filled by the texts
-- between the comma marks of the neutral string from `from` up to `end`
abbrev pub filled_cells : Lists → ℕ → ℕ → ℕ → ℕ → Text
filled_cells s place stop from end =
    fill (texts_between s.neutral from end) (map item_of (slice_range s.store place stop))
