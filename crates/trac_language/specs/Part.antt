-- The parts of a form that calls take.
use Rattle.std.specs.Prelude.{ℕ, zero, suc, ◌+◌, ◌-◌, min, List, [], ◌∷◌, take, length, reverse, ℤ}
use Rattle.std.specs.Prelude.{pos, negsuc, Option, Some, None, if◌then◌else◌, nat_lt, take_while}
use Rattle.std.specs.Prelude.{slice_range}
use Rattle.trac_language.specs.declared.item.Item.{Item}
use Rattle.trac_language.specs.declared.item.Item.TheVariants.{Byte, Gap}
use Rattle.trac_language.specs.Text.{Text}
use Rattle.trac_language.specs.Form.{Form, is_character, text_of, before_pointer, after_pointer}
use Rattle.trac_language.specs.Segment.{place_of}

-- the text taken, and the pointer afterwards
pub record Part : Type 0 where
  pub text : Text
  pub pointer : ℕ

-- the characters of a body between two places
abbrev pub characters_between : List Item → ℕ → ℕ → Text
characters_between body from to = text_of (slice_range body from to)

-- the part of the characters of a body between two places, with the pointer afterwards
abbrev pub part_between : List Item → ℕ × ℕ → ℕ → Part
part_between body places pointer =
    record { text = characters_between body places.0 places.1; pointer = pointer }

-- the shortest prefix with n characters, or all items if there are fewer
abbrev pub first_characters : ℕ → List Item → List Item
first_characters n [] = []
first_characters zero (item ∷ items) = []
first_characters (suc n) (Byte c ∷ items) = Byte c ∷ first_characters n items
first_characters (suc n) (Gap k ∷ items) = Gap k ∷ first_characters (suc n) items

-- the shortest suffix with n characters
abbrev pub last_characters : ℕ → List Item → List Item
last_characters n items = reverse (first_characters n (reverse items))

-- the characters up to the next gap; the pointer goes past the gap
abbrev pub segment_from : ℕ → List Item → List Item → Option Part
segment_from pointer [] front = None
segment_from pointer (item ∷ items) front =
    Some (record {
      text = text_of front;
      pointer =
          if nat_lt (length front) (length (item ∷ items)) then pointer + length front + 1
          else pointer + length front;
    })

-- the characters from the pointer to the next gap
abbrev pub next_segment : Form → Option Part
next_segment form =
    segment_from form.pointer (after_pointer form) (take_while is_character (after_pointer form))

-- the part, none if it has no character
abbrev pub unless_null : Part → Option Part
unless_null part = if nat_lt 0 (length part.text) then Some part else None

-- the items u after the pointer are taken
abbrev pub forward : Form → List Item → Option Part
forward form u = unless_null (record { text = text_of u; pointer = form.pointer + length u })

-- the items u before the pointer are taken
abbrev pub backward : Form → List Item → Option Part
backward form u = unless_null (record { text = text_of u; pointer = form.pointer - length u })

-- the next n characters after the pointer, or all of them if fewer follow
abbrev pub next_characters : ℕ → Form → Option Part
next_characters n form =
    forward form
    (first_characters (min n (length (text_of (after_pointer form)))) (after_pointer form))

-- the last n characters before the pointer, or all of them if there are fewer
abbrev pub previous_characters : ℕ → Form → Option Part
previous_characters n form =
    backward form
    (last_characters (min n (length (text_of (before_pointer form)))) (before_pointer form))

-- the part that has a number of characters forward from the pointer, or backward if the number is negative
abbrev pub characters : ℤ → Form → Option Part
characters (pos zero) form = Some (record { text = []; pointer = form.pointer })
characters (pos (suc n)) form = next_characters (suc n) form
characters (negsuc n) form = previous_characters (suc n) form

-- the characters before the first occurrence of the text; the pointer goes past it
abbrev pub up_to : Option ℕ → Text → Form → Option Part
up_to None text form = None
up_to (Some i) text form =
    Some (record {
      text = text_of (take i (after_pointer form));
      pointer = form.pointer + i + length text;
    })

-- the characters from the pointer to the first occurrence of the text
abbrev pub initial_part : Text → Form → Option Part
initial_part [] form = Some (record { text = []; pointer = form.pointer })
initial_part (c ∷ text) form = up_to (place_of (c ∷ text) (after_pointer form)) (c ∷ text) form
