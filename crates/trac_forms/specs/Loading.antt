-- Texts that are put before the active string, and characters taken one by one.
use Rattle.std.specs.Prelude.{◌≡◌, ℕ, true, ◌+◌, ◌<◌, ◌≤◌, ◌++◌, length, slice_range}
use Rattle.trac_language.specs.Form.{text_of}
use Rattle.trac_space.specs.Texts.{flat_text}
use Rattle.trac_language.specs.Text.{Text}
use Rattle.trac_store.specs.Search.{character_at}
use Rattle.trac_forms.specs.Contents.{Contents, used, body_at, pointer_at}
-- what a call of a form goes through, as the store's crate defines it
pub use Rattle.trac_store.specs.Loading.{called_part}

-- the text has `n` characters, which fit and stand before the active string
pub record IsLoaded (old new : Contents) (text : Text) (n : ℕ) : Type 0 where
  pub size : length text ≡ n
  pub fits : used old + n ≤ old.room
  pub stands : new ≡ record old { active = flat_text text ++ old.active }

-- the text of the item at the pointer of the form at place k, if that is a character
abbrev pub next_text : Contents → ℕ → Text
next_text w k =
    text_of (slice_range (body_at w.forms k) (pointer_at w.forms k) (pointer_at w.forms k + 1))

-- the item at the pointer of the form at place k is a character, and fits
pub record HasNext (w : Contents) (k : ℕ) : Type 0 where
  pub inside : pointer_at w.forms k < length (body_at w.forms k)
  pub character : character_at (body_at w.forms k) (pointer_at w.forms k) ≡ true
  pub fits : used w + length (next_text w k) ≤ w.room
