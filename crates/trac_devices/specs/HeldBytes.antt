-- Bytes that a source already holds, put into free cells.
use Rattle.std.specs.Prelude.{◌≡◌, ℕ, ◌<◌, ◌≤◌, ◌⊎◌, false, List, length, take}
use Rattle.std.specs.Prelude.{slice_get, Some}
use Rattle.trac_language.specs.Text.{Text}
use Rattle.trac_devices.specs.Devices.{has_byte}

-- a relation that says what it is to append a text to the neutral string of a value
abbrev pub Appending : Type 0 → Type 1
Appending N = N → N → Text → Type 0

-- a text without the stop was appended to the neutral string of a value
pub record ReadsInto {N : Type 0} (appended : Appending N) (meta : ℕ) (old new : N) (text : Text) : Type 0 where
  pub pushed : appended old new text
  pub no_meta : has_byte meta text ≡ false

-- the first `count` bytes that a source held were appended: all of them, those before the stop, or as many
-- as fit
pub record TakesHeld
    {N : Type 0} (appended : Appending N) (full : N → Type 0) (stop : ℕ) (held : List ℕ) (count : ℕ)
    (old new : N) : Type 0 where
  pub within : count ≤ length held
  pub put : appended old new (take count held)
  pub before : has_byte stop (take count held) ≡ false
  pub stops : count < length held → (slice_get held count ≡ Some stop) ⊎ full new
