-- What is said of a text that is read into the neutral string.
use Rattle.std.specs.Prelude.{◌≡◌, ℕ, true, false, [], ◌∷◌, ◌++◌}
use Rattle.trac_language.specs.Text.{Text}
use Rattle.trac_devices.specs.Devices.{Stream, has_byte}
use Rattle.trac_devices.specs.HeldBytes.{ReadsInto}
use Rattle.trac_forms.specs.Contents.{Contents, Appended}
use Rattle.trac_core.specs.declared.streaming.ReadEnd.{ReadEnd}
use Rattle.trac_core.specs.declared.streaming.ReadEnd.TheVariants.{Meta, Ended, Failed, Full}

-- a text without the meta character was put at the end of the neutral string
abbrev pub Reads : ℕ → Contents → Contents → Text → Type 0
Reads meta old new text = ReadsInto Appended meta old new text

-- how many failures of the source a text's end tells
abbrev pub failures_of_read : ReadEnd → ℕ
failures_of_read Failed = 1
failures_of_read Meta = 0
failures_of_read Ended = 0
failures_of_read Full = 0

-- from `old` to `new` the source gave `text`, and then what the end of the reading says
abbrev pub StreamsTo : ReadEnd → ℕ → Stream → Text → Stream → Type 0
StreamsTo Meta meta old text new = (old.bytes ≡ text ++ meta ∷ new.bytes) × (old.ended ≡ false)
StreamsTo Ended meta old text new = (old.bytes ≡ text) × (new.bytes ≡ []) × (new.ended ≡ true)
StreamsTo Failed meta old text new = (old.bytes ≡ text ++ new.bytes) × (old.ended ≡ false)
StreamsTo Full meta old text new =
    (next : ℕ) × ((old.bytes ≡ text ++ next ∷ new.bytes) × (has_byte meta (next ∷ []) ≡ false))
