-- What a reader behind a buffer gives, and what a writer behind a buffer took.
use Rattle.std.specs.Prelude.{◌≡◌, ℕ, ◌<◌, List, length, drop, Option}
use Rattle.std.specs.Io.KnownBytes.{append_known, prepend_known}
use Rattle.trac_devices.specs.Readers.{BufferedInput, BufferedOutput}

-- what a reader behind a buffer still gives, where the reader itself tells what it still has: the
-- bytes that were read ahead, and then those that the reader still has
abbrev pub unread : {R : Type 0} → (R → Option (List ℕ)) → BufferedInput R → Option (List ℕ)
unread remaining r = prepend_known r.held (remaining r.device.reader)

-- what a writer behind a buffer took, where the writer itself tells what it has: the bytes that the
-- writer has, and then those that wait
abbrev pub accepted : {W : Type 0} → (W → Option (List ℕ)) → BufferedOutput W → Option (List ℕ)
accepted contents w = append_known (contents w.device.writer) w.waiting

-- the last of the bytes that waited in a buffer still wait, at least one
abbrev pub WaitsOn : {W : Type 0} → BufferedOutput W → BufferedOutput W → Type 0
WaitsOn old new =
    (new.space ≡ old.space)
    × ((count : ℕ) × ((count < length old.waiting) × (new.waiting ≡ drop count old.waiting)))
