-- What C is told of a machine that it keeps.
use Rattle.std.specs.Prelude.{◌≡◌, ◌≢◌, ℕ, zero, suc, ◌+◌, ◌-◌, ◌<◌, ◌≤◌, [], ◌∷◌, ◌++◌, length, take}
use Rattle.std.specs.Prelude.{Bool, true, false, not, ◌&&◌, nat_le, nat_eq, Some, None}
use Rattle.trac_language.specs.declared.fate.Fate.{Fate}
use Rattle.trac_language.specs.declared.fate.Fate.TheVariants.{InputFailed, OutputFailed}
use Rattle.trac_language.specs.Text.{Text}
use Rattle.trac_language.specs.State.{Input, size}
use Rattle.trac_language.specs.Step.{need}
use Rattle.trac_devices.specs.Devices.{Stream, has_byte}
use Rattle.trac_devices.specs.Slices.{stream_in}
use Rattle.trac_core.specs.declared.machine.session.Awaits.{Awaits}
use Rattle.trac_core.specs.declared.machine.session.Awaits.TheVariants.{Nothing, Byte}
use Rattle.trac_core.specs.declared.machine.session.Awaits.TheVariants.{Text as AwaitsText}
use Rattle.trac_core.specs.Machine.{MachineState, Moment, moment, ending, state_with, GoesOn, Answers}
use Rattle.trac_core.specs.Machine.{KeepsSettings}
use Rattle.trac_core.specs.Answering.{asks_next}
use Rattle.trac_core.specs.Session.{awaited, next_function, next_printed}
use Rattle.trac_c.specs.Reports.{number}
use Rattle.trac_c.specs.Held.{listed}
use Rattle.trac_c.specs.declared.devices.GivenSource.{GivenSource}
use Rattle.trac_c.specs.declared.devices.OverflowSink.{OverflowSink}
use Rattle.trac_c.specs.declared.report.TracReport.{TracReport}
use Rattle.trac_c.specs.declared.turn.Turn.{Turn}
use Rattle.trac_c.specs.declared.turn.Turn.TheVariants.{Went, Waits, Full, Asks, Over}

-- whether a step of `m` that awaits this needs more than `bytes`: a string that no meta character
-- ends yet, as long as the cells could still hold it, or a byte where there is none
abbrev pub is_short : Awaits → MachineState → Text → Bool
is_short Nothing m bytes = false
is_short AwaitsText m bytes =
    not (has_byte m.memory.meta bytes) && nat_le (length bytes + size m.memory) (m.room + 1)
is_short Byte m bytes = nat_eq (length bytes) 0

-- whether the next step of `m` needs more than `bytes`, and the input goes on behind them
abbrev pub waits_for_input : Bool → MachineState → Text → Bool
waits_for_input ended m bytes = not ended && is_short (awaited (next_function m)) m bytes

-- waiting for input may end: with the meta character behind `bytes` the next step of `m` fits the
-- room, whatever was printed
abbrev pub MayGetMore : MachineState → Text → Type 0
MayGetMore m bytes =
    (output : Text) →
    need (state_with m.memory (ending (bytes ++ m.memory.meta ∷ [])) output) ≤ m.room

-- the run is over by itself: no device failed
abbrev pub NoDeviceFailed : Fate → Type 0
NoDeviceFailed fate = (fate ≢ InputFailed) × (fate ≢ OutputFailed)

-- what a part of a turn comes to, for a machine whose run is not over: a step that was done; none, since
-- it waits for input, for room, or for the host's value of a call; or a step with which the run is over
abbrev pub TurnsTo : Bool → Moment → Turn → Moment → Type 0
TurnsTo ended old Went new =
    (waits_for_input ended old.machine old.source.bytes ≡ false)
    × (GoesOn old new × ((new.machine.fate ≡ None)
    × ((asks_next old.machine ≡ false) × KeepsSettings old.machine new.machine)))
TurnsTo ended old Waits new =
    (waits_for_input ended old.machine old.source.bytes ≡ true) × (new ≡ old)
TurnsTo ended old (Full printed) new =
    (waits_for_input ended old.machine old.source.bytes ≡ false)
    × ((asks_next old.machine ≡ false) × (new ≡ old))
TurnsTo ended old Asks new = (asks_next old.machine ≡ true) × (new ≡ old)
TurnsTo ended old (Over fate) new =
    (waits_for_input ended old.machine old.source.bytes ≡ false)
    × (NoDeviceFailed fate × (Answers old (Some fate) new × (asks_next old.machine ≡ false)))

-- n steps of a turn lead from moment `old` to moment `new`
abbrev pub Goes : Bool → ℕ → Moment → Moment → Type 0
Goes ended zero old new = new ≡ old
Goes ended (suc n) old new =
    (middle : Moment) × (Goes ended n old middle × TurnsTo ended middle Went new)

-- the moment with more bytes behind those of its source
abbrev pub followed_by : Text → Moment → Moment
followed_by more m = record m { source = record m.source { bytes = m.source.bytes ++ more } }

-- n steps of a turn lead from `old` to `new` also if any more bytes stand behind those of the source;
-- these bytes stay behind what is left, whether the input then ends or not
abbrev pub GoesWithMore : ℕ → Moment → Moment → Type 0
GoesWithMore n old new =
    (more : Text) (ended : Bool) → Goes ended n (followed_by more old) (followed_by more new)

-- a turn of at most `most` steps ends after `done` of them: no step is left to it, or the next one
-- waits, lacks room, asks the host or ends the run
abbrev pub EndsTurn : Bool → (most done : ℕ) → Moment → Turn → Moment → Type 0
EndsTurn ended most done before Went new = (done ≡ most) × (new ≡ before)
EndsTurn ended most done before Waits new = (done < most) × TurnsTo ended before Waits new
EndsTurn ended most done before (Full printed) new =
    (done < most) × TurnsTo ended before (Full printed) new
EndsTurn ended most done before Asks new = (done < most) × TurnsTo ended before Asks new
EndsTurn ended most done before (Over fate) new =
    (done < most) × TurnsTo ended before (Over fate) new

-- a turn of at most `most` steps makes `done` of them from `old` to `before`, and ends with `last` at `new`
pub record Turned (ended : Bool) (most : ℕ) (old : Moment) (last : Turn) (new : Moment)
    (done : ℕ) (before : Moment) : Type 0 where
  pub goes : Goes ended done old before
  pub ends : EndsTurn ended most done before last new

abbrev pub SomeTurned : Bool → ℕ → Moment → Turn → Moment → Type 0
SomeTurned ended most old last new =
    (done : ℕ) × ((before : Moment) × Turned ended most old last new done before)

-- what was written to a sink over a buffer and one byte more
abbrev pub written_to : OverflowSink → Text
written_to sink = take sink.len sink.room.now ++ listed sink.behind

-- the moment at which a machine stands between a source and a sink
abbrev pub stands : MachineState → GivenSource → OverflowSink → Moment
stands m source sink = moment m (stream_in source.slice) (written_to sink)

-- the next step of `m` prints `printed` bytes, whatever the input, and the sink has no room for them
abbrev pub LacksRoom : ℕ → MachineState → OverflowSink → Type 0
LacksRoom printed m sink =
    (length sink.room.now < sink.len + printed)
    × ((input : Input) → printed ≡ length (next_printed m input))

-- the number of what a turn ended with
abbrev pub turn_number : Turn → ℕ
turn_number Went = 0
turn_number Waits = 7
turn_number (Full printed) = 8
turn_number Asks = 11
turn_number (Over fate) = number fate

-- what is wanted: as many bytes as the next step prints, where there was no room for them
abbrev pub wanted_by : Turn → ℕ
wanted_by (Full printed) = printed
wanted_by Went = 0
wanted_by Waits = 0
wanted_by Asks = 0
wanted_by (Over fate) = 0

-- `told` reports in numbers a turn over `input`, which ends with `last` and whose output stands at the
-- front of the buffer. If the input goes on behind these bytes, a turn over all of it makes these steps too
pub record TellsTurn (ended : Bool) (most : ℕ) (input buffer : Text) (old new : MachineState)
    (told : TracReport) (last : Turn) (left : Stream) : Type 0 where
  pub turned :
      SomeTurned ended most
      (moment old (record { bytes = input; ended = false }) [])
      last
      (moment new left (take told.written buffer))
  pub whole :
      ended ≡ false →
      GoesWithMore turned.0 (moment old (record { bytes = input; ended = false }) []) turned.1.0
  pub fate : told.fate ≡ turn_number last
  pub steps : told.steps ≡ new.steps
  pub peak : told.peak ≡ new.peak
  pub written : told.written ≤ length buffer
  pub consumed : told.consumed ≡ length input - length left.bytes
  pub wanted : told.wanted ≡ wanted_by last
  pub full :
      (printed : ℕ) → last ≡ Full printed →
      (length buffer < told.written + printed)
      × ((input : Input) → printed ≡ length (next_printed new input))
  pub waits : last ≡ Waits → MayGetMore new left.bytes

abbrev pub TurnOf :
    Bool → (most : ℕ) → (input buffer : Text) → (old new : MachineState) → TracReport → Type 0
TurnOf ended most input buffer old new told =
    (last : Turn) × ((left : Stream) × TellsTurn ended most input buffer old new told last left)

-- whether C says that the input ends
abbrev pub is_ended : ℕ → Bool
is_ended flag = not (nat_eq flag 0)

-- what a turn of at most `most` steps ends with if the run was over before it with this fate
abbrev pub last_over : (most : ℕ) → Fate → Turn
last_over zero fate = Went
last_over (suc n) fate = Over fate

-- the report of a turn of a machine whose run is over: nothing is read, written or counted
abbrev pub told_again : (most : ℕ) → Fate → MachineState → TracReport
told_again most fate m =
    record {
      fate = turn_number (last_over most fate);
      peak = m.peak;
      steps = m.steps;
      written = 0;
      consumed = 0;
      wanted = 0;
    }

-- a machine whose run is not over takes a turn; one whose run is over stays as it is, and `told` gives
-- its fate again
pub record TurnedOrOver (ended : Bool) (most : ℕ) (input buffer : Text) (old : MachineState)
    (told : TracReport) (new : MachineState) : Type 0 where
  pub settings : KeepsSettings old new
  pub turn : old.fate ≡ None → TurnOf ended most input buffer old new told
  pub over :
      (fate : Fate) → old.fate ≡ Some fate → (new ≡ old) × (told ≡ told_again most fate old)
