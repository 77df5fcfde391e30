-- What contracts say of the devices over memory.
use Rattle.std.specs.Prelude.{◌≡◌, ℕ, ◌+◌, Bool, true, false, List, [], ◌∷◌, Option, Some, None}
use Rattle.std.specs.Prelude.{length, take, if◌then◌else◌, nat_le}
use Rattle.trac_devices.specs.declared.device.Next.{Next}
use Rattle.trac_devices.specs.declared.device.Next.TheVariants.{Byte, End, Failed}
use Rattle.trac_devices.specs.Devices.{Stream}

-- a source over memory: the bytes that it gives, whether a failure or the end follows them, whether
-- it has ended, and its failures so far
pub record SliceInput : Type 0 where
  pub bytes : List ℕ
  pub fails : Bool
  pub ended : Bool
  pub failures : ℕ

-- where a source over memory stands
abbrev pub stream_in : SliceInput → Stream
stream_in s = record { bytes = s.bytes; ended = s.ended }

-- a new source that gives `bytes` and then ends, or fails at a place within them
abbrev pub slice_input : List ℕ → Option ℕ → SliceInput
slice_input bytes None = record { bytes = bytes; fails = false; ended = false; failures = 0 }
slice_input bytes (Some place) =
    record {
      bytes = if nat_le place (length bytes) then take place bytes else bytes;
      fails = nat_le place (length bytes);
      ended = false;
      failures = 0;
    }

-- what a source over memory answers behind its last byte
abbrev pub last_answer : Bool → Bool → Next
last_answer true fails = End
last_answer false true = Failed
last_answer false false = End

-- what a source over memory answers: the first byte, or what follows the last
abbrev pub slice_answer : SliceInput → Next
slice_answer s = elim s.bytes [ [] ↦ last_answer s.ended s.fails | b ∷ rest ↦ Byte b ]

-- a source over memory after an answer
abbrev pub slice_after : Next → SliceInput → SliceInput
slice_after (Byte b) s = record s { bytes = elim s.bytes [ [] ↦ [] | c ∷ rest ↦ rest ] }
slice_after End s = record s { ended = true }
slice_after Failed s = record s { failures = s.failures + 1 }

-- the reader tells its bytes, and has none left once it has ended
abbrev pub IfTells : Option (List ℕ) → Bool → Type 0
IfTells None ended = ⊥
IfTells (Some bytes) true = bytes ≡ []
IfTells (Some bytes) false = Unit {0}

-- a sink over memory: what was written, for how many bytes there is room, the flushes up to the one
-- that fails, the failures so far, and whether all that was taken has been sent on
pub record SliceOutput : Type 0 where
  pub written : List ℕ
  pub room : ℕ
  pub flushes_left : ℕ
  pub failures : ℕ
  pub is_flushed : Bool
