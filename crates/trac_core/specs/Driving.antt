-- Steps whose calls a performer performs, which may decline one.
use Rattle.std.specs.Prelude.{◌≡◌, ◌≢◌, ℕ, ◌+◌, ◌-◌, ◌<◌, ◌≤◌, zero, suc, ◌⊎◌, ◌++◌, length, Option, Some}
use Rattle.std.specs.Prelude.{None}
use Rattle.trac_language.specs.declared.fate.Fate.{Fate}
use Rattle.trac_language.specs.declared.fate.Fate.TheVariants.{Steps}
use Rattle.trac_language.specs.declared.function.Function.{Function}
use Rattle.trac_language.specs.Text.{Text}
use Rattle.trac_language.specs.State.{Memory, size}
use Rattle.trac_devices.specs.Devices.{Stream}
use Rattle.trac_forms.specs.Contents.{Contents, used, IsSound}
use Rattle.trac_functions.specs.Flat.{memory_of}
use Rattle.trac_core.specs.declared.outcome.StepOutcome.{StepOutcome}
use Rattle.trac_core.specs.Performed.{performs}
use Rattle.trac_core.specs.StepsInRow.{Advances}
use Rattle.trac_core.specs.StepOutcomes.{LeavesSource, LeavesSink}
use Rattle.trac_core.specs.Machine.{MachineState, moment, counted, Answers, KeepsSettings, KeepsFormsAndMeta}
use Rattle.trac_core.specs.Advancing.{StepsAlone, EndsAlone}

-- a machine between the source and the sink that its performer has
pub record Standing (I O : Type 0) : Type 0 where
  pub machine : MachineState
  pub source : I
  pub sink : O

abbrev pub standing : {I O : Type 0} → MachineState → I → O → Standing I O
standing machine source sink = record { machine = machine; source = source; sink = sink }

-- the contents of a workspace and a meta character, between a source and a sink
pub record Stage (I O : Type 0) : Type 0 where
  pub contents : Contents
  pub meta : ℕ
  pub source : I
  pub sink : O

abbrev pub stage : {I O : Type 0} → Contents → ℕ → I → O → Stage I O
stage contents meta source sink =
    record { contents = contents; meta = meta; source = source; sink = sink }

module _ {I O : Type 0} (performed : Standing I O → Option Fate → Standing I O → Type 0) where
  -- the step was performed that each machine makes which holds the contents of `old` and may step, once
  -- `needed` cells are counted
  abbrev pub PerformedFor : Option Fate → (needed : ℕ) → (old new : Stage I O) → Type 0
  PerformedFor fate needed old new =
      (m : MachineState) → m.room ≡ old.contents.room →
      m.memory ≡ memory_of old.meta old.contents → m.steps < m.allowance →
      performed (standing m old.source old.sink) fate
      (standing (counted m (memory_of new.meta new.contents) needed fate) new.source new.sink)

  -- one step more: it performs no call and needs no device, or its call was performed
  abbrev pub StepsBy : (old new : Standing I O) → Type 0
  StepsBy old new =
      (StepsAlone old.machine new.machine × (new ≡ standing new.machine old.source old.sink))
      ⊎ (KeepsSettings old.machine new.machine × performed old None new)

  -- n steps lead from `old` to `new`
  abbrev pub GoesBy : ℕ → (old new : Standing I O) → Type 0
  GoesBy zero old new = new ≡ old
  GoesBy (suc n) old new = (middle : Standing I O) × (GoesBy n old middle × StepsBy middle new)

  -- why no more than n steps were done: these are as many as are wanted, or the next one is not allowed or
  -- was declined, or it ended the run
  abbrev pub StopsBy :
      (declines : Memory → Type 0) → (most n : ℕ) → (before : Standing I O) → Option Fate →
      (new : Standing I O) → Type 0
  StopsBy declines most n before None new =
      (new ≡ before) × ((n ≡ most)
      ⊎ ((before.machine.steps ≡ before.machine.allowance) ⊎ declines before.machine.memory))
  StopsBy declines most n before (Some fate) new =
      (n < most) × performed before (Some fate) new

  -- n steps lead on from `old`, and there is a reason for no more of them
  abbrev pub Driven : (declines : Memory → Type 0) → (most n : ℕ) → (old new : Standing I O) → Type 0
  Driven declines most n old new =
      (before : Standing I O) × (GoesBy n old before
      × StopsBy declines most n before new.machine.fate new)

-- the next step performs this function, if any, and was declined: nothing is done
pub record Declined {I O : Type 0} (declines : Memory → Type 0) (function : Option Function)
    (old new : Stage I O) : Type 0 where
  pub next : performs (memory_of old.meta old.contents) ≡ function
  pub declined : declines (memory_of old.meta old.contents)
  pub same : new ≡ old

-- a step was performed that reads, and `scanned` steps followed which perform no call, if the run goes on
pub record ReadsOn {I O : Type 0} (performed : Standing I O → Option Fate → Standing I O → Type 0)
    (outcome : StepOutcome) (scanned : ℕ) (old : Stage I O) (new : Contents) (after : I) : Type 0 where
  -- what the contents are between the two
  pub middle : Contents
  pub step : PerformedFor performed outcome.fate outcome.need old
      (record old { contents = middle; source = after })
  pub scans : Advances scanned middle new
  pub room : middle.room ≡ old.contents.room
  pub sound : IsSound middle
  pub ends : outcome.fate ≢ None → new ≡ middle
  pub fits : outcome.fate ≡ None → used middle ≤ outcome.need

-- a step that needs no device, and at which no turn stops, was performed
abbrev pub PerformedAlone : MachineState → Option Fate → MachineState → Type 0
PerformedAlone old None new = StepsAlone old new
PerformedAlone old (Some fate) new = EndsAlone old fate new

-- a step was performed with a source and a sink
pub record PerformedWith {I O L : Type 0} (tells : I → Type 0) (stream : I → Stream) (failures : I → ℕ)
    (told flushed : O → Type 0) (written : O → Text) (lent : O → L) (broken : O → ℕ)
    (old : Standing I O) (fate : Option Fate) (new : Standing I O) : Type 0 where
  pub answers : tells old.source → told old.sink →
      Answers (moment old.machine (stream old.source) (written old.sink)) fate
      (moment new.machine (stream new.source) (written new.sink))
  pub takes : tells old.source →
      (taken : Text) × (((stream old.source).bytes ≡ taken ++ (stream new.source).bytes)
      × (length taken ≤ old.machine.room - size old.machine.memory + 2))
  pub source : LeavesSource tells failures fate (performs old.machine.memory) old.source new.source
  pub sink :
      LeavesSink told flushed written lent broken fate (performs old.machine.memory) old.sink new.sink
  pub unspent : fate ≢ Some Steps
  pub keeps : fate ≢ None → KeepsFormsAndMeta old.machine.memory new.machine.memory
