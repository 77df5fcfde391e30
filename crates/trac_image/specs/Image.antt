-- The image of a machine's forms and its meta character: bytes that are the same on every machine.
use Rattle.std.specs.Prelude.{◌≡◌, ℕ, ◌<◌, ◌+◌, ◌/◌, ◌%◌, List, [], ◌∷◌, ◌++◌, length, flat_map}
use Rattle.trac_language.specs.declared.item.Item.{Item}
use Rattle.trac_language.specs.declared.item.Item.TheVariants.{Byte, Gap}
use Rattle.trac_language.specs.Text.{Text}
use Rattle.trac_language.specs.Form.{Form, text_of}
use Rattle.trac_image.specs.declared.checksum.Checksum.{Checksum}

-- a number in two bytes, the least first; of a greater number what fits
abbrev pub two_bytes : ℕ → Text
two_bytes n = n % 256 ∷ n / 256 % 256 ∷ []

-- a number in four bytes, the least first; of a greater number what fits
abbrev pub four_bytes : ℕ → Text
four_bytes n = n % 256 ∷ n / 256 % 256 ∷ n / 65536 % 256 ∷ n / 16777216 % 256 ∷ []

-- for each gap of a body how many characters stand before it, behind the gap before that one, and its ordinal;
-- `since` characters stand before the items
abbrev pub gap_bytes : (since : ℕ) → List Item → Text
gap_bytes since [] = []
gap_bytes since (Byte c ∷ items) = gap_bytes (since + 1) items
gap_bytes since (Gap k ∷ items) = four_bytes since ++ (four_bytes k ++ gap_bytes 0 items)

-- a form: how many characters its name has, how many items its body has and how many of these are characters,
-- and its pointer; then the name, the characters of the body, and its gaps
abbrev pub form_image : Form → Text
form_image form =
    four_bytes (length form.name) ++ (four_bytes (length form.body)
    ++ (four_bytes (length (text_of form.body)) ++ (four_bytes form.pointer
    ++ (form.name ++ (text_of form.body ++ gap_bytes 0 form.body)))))

-- the sums of Adler-32 of no bytes
abbrev pub no_sums : Checksum
no_sums = record { low = 1; high = 0 }

abbrev pub with_summand : ℕ → Checksum → Checksum
with_summand byte s =
    record { low = (s.low + byte) % 65521; high = (s.high + (s.low + byte) % 65521) % 65521 }

-- the sums of a text, behind what was summed before it
abbrev pub summed : Text → Checksum → Checksum
summed [] s = s
summed (byte ∷ text) s = summed text (with_summand byte s)

-- sums as four bytes
abbrev pub sum_bytes : Checksum → Text
sum_bytes s = two_bytes s.low ++ two_bytes s.high

-- what is summed: `TRAC`, the version, which is 1, the meta character, how many forms there are, and their bytes
abbrev pub headed : (meta count : ℕ) → Text → Text
headed meta count forms = 84 ∷ 82 ∷ 65 ∷ 67 ∷ 1 ∷ meta ∷ (four_bytes count ++ forms)

-- that, and its sums
abbrev pub framed : (meta count : ℕ) → Text → Text
framed meta count forms = headed meta count forms ++ sum_bytes (summed (headed meta count forms) no_sums)

-- the bytes are a head, this meta character, so many forms, these bytes of theirs, and the sums
pub record IsContent (bytes : Text) (meta count : ℕ) (forms : Text) : Type 0 where
  pub image : bytes ≡ framed meta count forms
  pub few : count < 4294967296

-- what is summed of the image of forms and a meta character
abbrev pub content : List Form → (meta : ℕ) → Text
content forms meta = headed meta (length forms) (flat_map form_image forms)

-- the image of forms and a meta character
abbrev pub image_of : List Form → (meta : ℕ) → Text
image_of forms meta = framed meta (length forms) (flat_map form_image forms)
