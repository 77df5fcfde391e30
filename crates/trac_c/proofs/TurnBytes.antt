-- A turn between a source over its input and a sink over its buffer, in their bytes.
use mathlib.Core.Path.{transport}
use Rattle.trac_c.proofs.Imports.{◌≡◌, ◌∙◌, ◌++◌, ℕ, [], None, false, sym, append-nil, ◌+◌, ◌<◌, length, take, Text, Input, MachineState, Moment, moment, next_printed, LacksRoom}
use Rattle.trac_c.specs.Held.{listed}
use Rattle.trac_c.specs.Turns.{written_to}
use Rattle.trac_c.specs.declared.devices.OverflowSink.{OverflowSink}

-- what holds from a moment before anything is written on, by the bytes of the source and what is written in the end
pub between : (P : Moment → Moment → Type 0) (old new : Moment) (input printed : Text) → old.source ≡ record { bytes = input; ended = false } → old.written ≡ [] → new.written ≡ printed → P old new → P (moment old.machine (record { bytes = input; ended = false }) []) (moment new.machine new.source printed)
between P old new input printed source_is none same holds =
    transport (λ i. P (moment old.machine (source_is i) (none i)) (moment new.machine new.source (same i))) holds

-- what was written to a sink that has no byte behind its buffer stands at the buffer's front
pub written-front : (sink : OverflowSink) (given : Text) (written : ℕ) → sink.behind ≡ None → sink.room.now ≡ given → written ≡ sink.len → written_to sink ≡ take written given
written-front sink given written clear holds count =
    (λ i. take (sym count i) (holds i) ++ listed (clear i)) ∙ append-nil (take written given)

-- what is wanted has no room
pub told_full :
    (printed : ℕ) (m : MachineState) (sink : OverflowSink) (given : Text) (written : ℕ) →
    sink.room.now ≡ given → written ≡ sink.len → LacksRoom printed m sink →
    (length given < written + printed) × ((input : Input) → printed ≡ length (next_printed m input))
told_full printed m sink given written holds count lacks = rw (← holds, count) lacks
