-- A buffer to which an image is being written.
use Rattle.std.specs.Prelude.{ℕ, ◌+◌, ◌++◌, min, List, [], ◌∷◌, Option, Some, None}
use Rattle.trac_language.specs.declared.item.Item.{Item}
use Rattle.trac_language.specs.declared.item.Item.TheVariants.{Byte, Gap}
use Rattle.trac_language.specs.Text.{Text}
use Rattle.trac_image.specs.declared.saving.Written.{Written}
use Rattle.trac_image.specs.Buffers.{laid_from}
use Rattle.trac_image.specs.declared.checksum.Checksum.{Checksum}
use Rattle.trac_image.specs.Image.{with_summand, four_bytes}

-- the buffer, how many bytes of the image were written, as far as 64 bits count them, and their sums
pub record Page : Type 0 where
  pub room : List ℕ
  pub len : ℕ
  pub sums : Checksum

abbrev pub page : Written → List ℕ → Page
page at room = record { room = room; len = at.len; sums = at.sums }

-- one more byte is written: a byte behind the end of the buffer is only counted and summed
unfoldable pub with_byte : ℕ → Page → Page
with_byte byte p = record {
  room = laid_from p.len (byte ∷ []) p.room;
  len = min (p.len + 1) 18446744073709551615;
  sums = with_summand byte p.sums;
}

-- a text is written
abbrev pub wrote : Text → Page → Page
wrote [] p = p
wrote (byte ∷ text) p = wrote text (with_byte byte p)

-- an item's gap, if it is one, behind `since` characters
abbrev pub gap_text : (since : ℕ) → Option Item → Text
gap_text since None = []
gap_text since (Some (Byte c)) = []
gap_text since (Some (Gap k)) = four_bytes since ++ four_bytes k
