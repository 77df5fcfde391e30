-- Gaps of a form, and texts in it and in the names of its calls.
use Rattle.std.specs.Prelude.{ℕ, ◌==◌, ◌&&◌, ◌||◌, Bool, true, false, not, List, [], ◌∷◌, if◌then◌else◌, max}
use Rattle.std.specs.Prelude.{is_none, length, nat_lt, slice_get, Option, None, Some}
use Rattle.std.specs.Char.{is_ascii_alphanumeric, is_ascii_lowercase}
use Rattle.std.specs.List.{list_all}
use Rattle.trac_language.specs.Form.{Form}
use Rattle.trac_language.specs.Part.{initial_part}
use Rattle.trac_language.specs.declared.item.Item.{Item}
use Rattle.trac_language.specs.declared.item.Item.TheVariants.{Byte, Gap}
use Rattle.trac_language.specs.Text.{Text}

-- whether an item ends a name: a comma, a parenthesis, a number sign or a gap does
abbrev pub ends_name : Item → Bool
ends_name (Byte c) = (c == 44) || (c == 40) || (c == 41) || (c == 35)
ends_name (Gap k) = true

-- whether the item is the character c
abbrev pub is_character : ℕ → Item → Bool
is_character c (Byte b) = b == c
is_character c (Gap k) = false

-- whether the items begin with the text
abbrev pub begins : Text → List Item → Bool
begins [] items = true
begins (c ∷ text) [] = false
begins (c ∷ text) (item ∷ items) = is_character c item && begins text items

-- whether the text begins in the name at the head of the items
abbrev pub begins_in_name : Text → List Item → Bool
begins_in_name text [] = false
begins_in_name text (item ∷ items) =
    not (ends_name item) && (begins text (item ∷ items) || begins_in_name text items)

-- the items behind a number sign and a left parenthesis at the head of the items, or none
abbrev pub behind_opening : List Item → List Item
behind_opening [] = []
behind_opening (first ∷ []) = []
behind_opening (first ∷ second ∷ items) =
    if is_character 35 first && is_character 40 second then items else []

-- whether the text begins in the name of a call: in what stands behind a number sign and a left parenthesis,
-- before what ends a name
abbrev pub stands_in_name : Text → List Item → Bool
stands_in_name text [] = false
stands_in_name text (item ∷ items) =
    begins_in_name text (behind_opening (item ∷ items)) || stands_in_name text items

-- whether the text, which isn't null, stands among the items
abbrev pub stands_in : Text → List Item → Bool
stands_in text [] = false
stands_in text (item ∷ items) = begins text (item ∷ items) || stands_in text items

-- whether something of a form is left, and a text for which `in` looks doesn't stand there
abbrev pub is_absent : Text → Form → Bool
is_absent text form = nat_lt form.pointer (length form.body) && is_none (initial_part text form)

-- n, or the ordinal of an item that is a gap, whichever is greater
abbrev pub with_gap : ℕ → Item → ℕ
with_gap n (Byte c) = n
with_gap n (Gap k) = max n k

-- n, or the highest ordinal of a gap among the items, whichever is greater
abbrev pub highest_gap : ℕ → List Item → ℕ
highest_gap n [] = n
highest_gap n (item ∷ items) = highest_gap (with_gap n item) items

-- whether an item is a letter or a digit
abbrev pub is_of_word : Item → Bool
is_of_word (Byte c) = is_ascii_alphanumeric c
is_of_word (Gap k) = false

-- whether there is an item, which is a letter or a digit
abbrev pub goes_on : Option Item → Bool
goes_on None = false
goes_on (Some item) = is_of_word item

-- whether a text of this length at the head of the items is part of a longer word, where a letter or a digit stands
-- before it or doesn't
abbrev pub is_joined : (is_behind : Bool) → (len : ℕ) → List Item → Bool
is_joined is_behind len items = is_behind || goes_on (slice_get items len)

-- whether the text, a word, stands at the head of the items: as a part of a longer word if `joined`, else by itself
abbrev pub begins_so : (joined is_behind : Bool) → Text → List Item → Bool
begins_so joined is_behind text items =
    begins text items
    && (if joined then is_joined is_behind (length text) items else not (is_joined is_behind (length text) items))

-- whether the text, a word, stands among the items: as a part of a longer word if `joined`, else by itself
abbrev pub stands_so : (joined is_behind : Bool) → Text → List Item → Bool
stands_so joined is_behind text [] = false
stands_so joined is_behind text (item ∷ items) =
    begins_so joined is_behind text (item ∷ items) || stands_so joined (is_of_word item) text items

-- whether the text is a word in small letters that stands among the items by itself, and also inside longer words
abbrev pub stands_in_words : Text → List Item → Bool
stands_in_words text items =
    list_all is_ascii_lowercase text && (stands_so true false text items && stands_so false false text items)
