-- What contracts say of the devices that a machine reads from and writes to.
use Rattle.std.specs.Prelude.{◌≡◌, ℕ, ◌<◌, Bool, true, false, List, [], ◌∷◌, ◌++◌, ◌==◌}
use Rattle.std.specs.Prelude.{length, Option, Result, Ok, Err, ◌⊎◌, unwrap_or}
use Rattle.std.specs.List.{list_any}
use Rattle.trac_devices.specs.declared.device.Next.{Next}
use Rattle.trac_devices.specs.declared.device.Next.TheVariants.{Byte, End, Failed}

-- where a source stands: the bytes still to come, and whether it has answered its end
pub record Stream : Type 0 where
  pub bytes : List ℕ
  pub ended : Bool

-- where a source over a reader stands, by the reader's bytes, if contracts can name them
abbrev pub told_stream : Option (List ℕ) → Bool → Stream
told_stream told ended = record { bytes = unwrap_or told []; ended = ended }

-- what a source that stands at `old` may answer, if it then stands at `new`
abbrev pub Gives : Stream → Next → Stream → Type 0
-- a source answers its first byte, which is consumed
Gives old (Byte b) new = (old.bytes ≡ b ∷ new.bytes) × (old.ended ≡ false) × (new.ended ≡ false)
-- a source answers its end only if no more bytes come, and from then on
Gives old End new = (old.bytes ≡ []) × (new.bytes ≡ []) × (new.ended ≡ true)
-- a failure consumes nothing, and a source that has ended does not fail
Gives old Failed new = (old.ended ≡ false) × (new ≡ old)

-- a source that stood at `old` gave `bytes` and then stands at `new`
abbrev pub Streams : Stream → List ℕ → Stream → Type 0
Streams old bytes new = (old.bytes ≡ bytes ++ new.bytes) × (old.ended ≡ new.ended)

-- whether a byte stands among bytes
abbrev pub has_byte : ℕ → List ℕ → Bool
has_byte byte bytes = list_any (λ b. b == byte) bytes

-- how many failures an answer of a source tells
abbrev pub failures_of_next : Next → ℕ
failures_of_next (Byte b) = 0
failures_of_next End = 0
failures_of_next Failed = 1

-- how many failures an answer of a sink tells
abbrev pub failures_of : {A E : Type 0} → Result A E → ℕ
failures_of (Ok x) = 0
failures_of (Err e) = 1

-- what a sink holds after it was given a byte, by its answer
abbrev pub after_put : {A E : Type 0} → List ℕ → ℕ → Result A E → List ℕ
after_put written byte (Ok x) = written ++ byte ∷ []
after_put written byte (Err e) = written

-- `new` is `old`, which was written before, and a first part of `text`
abbrev pub Breaks : List ℕ → List ℕ → List ℕ → Type 0
Breaks old text new =
    (put : List ℕ) × ((rest : List ℕ) × ((text ≡ put ++ rest) × (new ≡ old ++ put)))

-- `new` is `old`, which was written before, and `text`; after an error a first part of `text`
abbrev pub Prints : {A E : Type 0} → Result A E → List ℕ → List ℕ → List ℕ → Type 0
Prints (Ok x) old text new = new ≡ old ++ text
Prints (Err e) old text new = Breaks old text new

-- a sink was not called; or bytes were put, and then all that it had taken was sent on
abbrev pub Sent :
    {S : Type 0} → (tells flushed : S → Type 0) → (written : S → List ℕ) → S → S → Type 0
Sent tells flushed written old new =
    (new ≡ old) ⊎ (flushed new × (tells old → length (written old) < length (written new)))
