-- Texts in capitals and in small letters.
use Rattle.std.specs.Prelude.{Bool, not, ◌&&◌, List, map}
use Rattle.std.specs.Char.{to_ascii_lowercase}
use Rattle.trac_language.specs.declared.item.Item.{Item}
use Rattle.trac_language.specs.declared.item.Item.TheVariants.{Byte, Gap}
use Rattle.trac_language.specs.Text.{Text}
use Rattle.trac_events.specs.Changes.{is_same}
use Rattle.trac_warnings.specs.Gaps.{stands_in}

-- a text in small letters
abbrev pub in_small : Text → Text
in_small text = map to_ascii_lowercase text

-- an item, whose letter is made small
abbrev pub small_item : Item → Item
small_item (Byte c) = Byte (to_ascii_lowercase c)
small_item (Gap k) = Gap k

-- whether the text, which isn't null, stands among the items in letters of either case
abbrev pub stands_in_letters : Text → List Item → Bool
stands_in_letters text items = stands_in (in_small text) (map small_item items)

-- whether two texts are the same in small letters
abbrev pub is_same_in_small : (one other : Text) → Bool
is_same_in_small one other = is_same (in_small one) (in_small other)

-- whether two texts differ, and only in capitals and small letters
abbrev pub differ_by_letters : (one other : Text) → Bool
differ_by_letters one other = not (is_same one other) && is_same_in_small one other
