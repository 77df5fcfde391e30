-- What is read from an image.
use Rattle.std.specs.Prelude.{◌≡◌, ℕ, zero, suc, ◌+◌, ◌-◌, ◌*◌, ◌<◌, ◌≤◌, ◌==◌, Bool, false, List, [], ◌∷◌, length}
use Rattle.std.specs.Prelude.{take, drop, get_or, if◌then◌else◌}
use Rattle.trac_language.specs.declared.item.Item.{Item}
use Rattle.trac_language.specs.declared.item.Item.TheVariants.{Byte, Gap}
use Rattle.trac_language.specs.Text.{Text}
use Rattle.trac_language.specs.Form.{Form}
use Rattle.trac_image.specs.declared.reading.Heads.{Heads}

-- the number that four bytes at the front of a text are, the least first; a byte that isn't there is 0
abbrev pub number_in : Text → ℕ
number_in t = get_or t 0 0 + 256 * get_or t 1 0 + 65536 * get_or t 2 0 + 16777216 * get_or t 3 0

-- whether the next gap stands behind so many characters
abbrev pub is_gap_behind : (since : ℕ) → Text → Bool
is_gap_behind since [] = false
is_gap_behind since (b ∷ gaps) = number_in (b ∷ gaps) == since

-- the next items of a body, so many, of its gaps and its characters; `since` characters stand behind the last gap
abbrev pub woven : (n since : ℕ) → (gaps characters : Text) → List Item
woven zero since gaps characters = []
woven (suc n) since gaps characters =
    if is_gap_behind since gaps
    then Gap (number_in (drop 4 gaps)) ∷ woven n 0 (drop 8 gaps) characters
    else Byte (get_or characters 0 0) ∷ woven n (since + 1) gaps (drop 1 characters)

-- the numbers in front of the form at the front of a text
abbrev pub heads_in : Text → Heads
heads_in t = record {
  name = number_in t;
  body = number_in (drop 4 t);
  characters = number_in (drop 8 t);
  pointer = number_in (drop 12 t);
}

-- the parts of a form at the front of a text, and what stands behind each
abbrev pub name_in : Text → Text
name_in t = take (heads_in t).name (drop 16 t)

abbrev pub behind_name : Text → Text
behind_name t = drop (heads_in t).name (drop 16 t)

abbrev pub characters_in : Text → Text
characters_in t = take (heads_in t).characters (behind_name t)

abbrev pub behind_characters : Text → Text
behind_characters t = drop (heads_in t).characters (behind_name t)

-- eight bytes for each gap
abbrev pub gap_size : Heads → ℕ
gap_size heads = 8 * (heads.body - heads.characters)

abbrev pub gaps_in : Text → Text
gaps_in t = take (gap_size (heads_in t)) (behind_characters t)

abbrev pub behind_form : Text → Text
behind_form t = drop (gap_size (heads_in t)) (behind_characters t)

-- the form at the front of a text
abbrev pub form_in : Text → Form
form_in t = record {
  name = name_in t;
  body = woven (heads_in t).body 0 (gaps_in t) (characters_in t);
  pointer = (heads_in t).pointer;
}

-- so many forms from the front of a text on, and what stands behind them
abbrev pub forms_in : ℕ → Text → List Form
forms_in zero t = []
forms_in (suc n) t = form_in t ∷ forms_in n (behind_form t)

abbrev pub behind_forms : ℕ → Text → Text
behind_forms zero t = t
behind_forms (suc n) t = behind_forms n (behind_form t)

-- the parts of a form at the front of a text are there
pub record HasRoom (t : Text) : Type 0 where
  pub fewer : (heads_in t).characters ≤ (heads_in t).body
  pub heads : 16 ≤ length t
  pub name : (heads_in t).name ≤ length (drop 16 t)
  pub characters : (heads_in t).characters ≤ length (behind_name t)
  pub gaps : gap_size (heads_in t) ≤ length (behind_characters t)

-- how many items are gaps
abbrev pub gap_count : List Item → ℕ
gap_count [] = 0
gap_count (Byte c ∷ items) = gap_count items
gap_count (Gap k ∷ items) = 1 + gap_count items

-- the parts of a form are there, and as many of its items are gaps as its numbers say
pub record HasParts (t : Text) : Type 0 where
  pub room : HasRoom t
  pub counted : gap_count (form_in t).body + (heads_in t).characters ≡ (heads_in t).body

-- the ordinal of each gap is from 1 to 16,777,216
abbrev pub GapsFit : List Item → Type 0
GapsFit [] = Unit {0}
GapsFit (Byte c ∷ items) = GapsFit items
GapsFit (Gap k ∷ items) = (0 < k) × (k ≤ 16777216) × GapsFit items

abbrev pub IsCharacter : ℕ → Type 0
IsCharacter b = b < 256
