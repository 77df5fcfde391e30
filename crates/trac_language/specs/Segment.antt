-- Occurrences of a text among items, and their replacement by gaps.
use Rattle.std.specs.Prelude.{ℕ, zero, suc, ◌-◌, Bool, true, false, ◌&&◌, List, [], ◌∷◌, length}
use Rattle.std.specs.Prelude.{Option, Some, None, ◌==◌, if◌then◌else◌, option_map}
use Rattle.trac_language.specs.declared.item.Item.{Item}
use Rattle.trac_language.specs.declared.item.Item.TheVariants.{Byte, Gap}
use Rattle.trac_language.specs.Text.{Text}

-- whether the items begin with the characters of the text
abbrev pub begins : List Item → Text → Bool
begins items [] = true
begins [] (c ∷ text) = false
begins (Byte b ∷ items) (c ∷ text) = (b == c) && begins items text
begins (Gap k ∷ items) (c ∷ text) = false

-- the least place at which the characters of the text stand as items
abbrev pub place_of : Text → List Item → Option ℕ
place_of text [] = None
place_of text (item ∷ items) =
    if begins (item ∷ items) text then Some 0 else option_map suc (place_of text items)

-- the items, the first skip of them left out, since they belong to an occurrence that became a gap; each
-- later occurrence is replaced by a gap
unfoldable pub segment_after : ℕ → Text → ℕ → List Item → List Item
segment_after skip text k [] = []
segment_after (suc skip) text k (item ∷ items) = segment_after skip text k items
segment_after zero text k (item ∷ items) =
    elim (begins (item ∷ items) text) [
      | true ↦ Gap k ∷ segment_after (length text - 1) text k items
      | false ↦ item ∷ segment_after zero text k items
    ]

-- each occurrence of the text, from the left, replaced by a gap k; a null text makes none
abbrev pub segment : Text → ℕ → List Item → List Item
segment [] k items = items
segment (c ∷ text) k items = segment_after zero (c ∷ text) k items

-- the items, segmented by the first text with gaps of ordinal k, then by the next with k + 1, and so on
abbrev pub segment_by : List Text → ℕ → List Item → List Item
segment_by [] k items = items
segment_by (text ∷ texts) k items = segment_by texts (suc k) (segment text k items)
