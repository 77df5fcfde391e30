-- Borders of a text: beginnings of it that also end it.
use Rattle.std.specs.Prelude.{◌≡◌, ℕ, ◌+◌, ◌-◌, ◌<◌, ◌≤◌, true, List, length, map}
use Rattle.std.specs.Prelude.{slice_range, slice_index_or}
use Rattle.trac_language.specs.Text.{Text}
use Rattle.trac_space.specs.declared.cell.Cell.{Cell}
use Rattle.trac_space.specs.declared.cell.Cell.TheVariants.{Byte}
use Rattle.trac_space.specs.Tags.{untagged, tag_of, HaveTags}
use Rattle.trac_space.specs.Texts.{character_of}
use Rattle.trac_store.specs.Gaps.{is_byte}
use Rattle.trac_store.specs.Parts.{part_text}

-- the character at the place
abbrev pub byte_at : List ℕ → ℕ → ℕ
byte_at text k = slice_index_or text k 0

-- the first b characters of the text also end its first n
pub record IsBorder (text : List ℕ) (n b : ℕ) : Type 0 where
  pub within : b ≤ n
  pub same : (k : ℕ) → k < b → byte_at text k ≡ byte_at text (n - b + k)

-- b is the greatest number below n for which the first b characters of the text also end its first n
pub record IsLongestBorder (text : List ℕ) (n b : ℕ) : Type 0 where
  pub shorter : b < n
  pub border : IsBorder text n b
  pub longest : (c : ℕ) → c < n → IsBorder text n c → c ≤ b

-- the text under numbers
abbrev pub tagged_text : List Cell → Text
tagged_text cells = map (λ cell. character_of (untagged cell)) cells

-- over each of the first `count` cells of a text lies the longest border of the beginning that ends there
abbrev pub HaveBorders : List Cell → ℕ → Type 0
HaveBorders cells count =
    (n : ℕ) → 0 < n → n ≤ count
    → IsLongestBorder (tagged_text cells) n (tag_of (slice_index_or cells (n - 1) (Byte 0)))

-- a text that isn't null stands from a up to b, and over each of its cells lies the longest border of the
-- beginning that ends there
pub record IsTaggedText (string : List Cell) (a b : ℕ) : Type 0 where
  pub some : a < b
  pub within : b ≤ length string
  pub borders : HaveBorders (slice_range string a b) (length (slice_range string a b))

-- over each cell of the text from a up to b lies the longest border of the beginning that ends there, and
-- nothing else has changed
pub record AreTagged (was now : List Cell) (a b : ℕ) : Type 0 where
  pub numbers : HaveTags was now a b
  pub text : tagged_text (slice_range now a b) ≡ part_text was a b
  pub borders : HaveBorders (slice_range now a b) (b - a)
  pub long : length now ≡ length was

-- the first b characters of the text also end its first n, and `cell` is the character behind the first b
pub record GoesOn (text : List ℕ) (n : ℕ) (cell : Cell) (b : ℕ) : Type 0 where
  pub border : IsBorder text n b
  pub next : is_byte (byte_at text b) cell ≡ true

-- `next` is one more than the longest border of the text's first n characters behind which `cell` follows; 0 if
-- it follows behind none
pub record IsNextBorder (text : List ℕ) (n : ℕ) (cell : Cell) (next : ℕ) : Type 0 where
  pub some : 0 < next → GoesOn text n cell (next - 1)
  pub most : (b : ℕ) → GoesOn text n cell b → b < next
