-- Steps that need no device.
use Rattle.std.specs.Prelude.{◌≡◌, ℕ, Bool, zero, suc, ◌<◌, ◌⊎◌, true, false, Option, Some, None}
use Rattle.trac_language.specs.declared.fate.Fate.{Fate}
use Rattle.trac_language.specs.Text.{Text}
use Rattle.trac_devices.specs.Devices.{Stream}
use Rattle.trac_forms.specs.Contents.{Contents}
use Rattle.trac_functions.specs.Flat.{memory_of}
use Rattle.trac_core.specs.declared.machine.Counters.{Counters}
use Rattle.trac_core.specs.declared.machine.advancing.Advance.{Advance}
use Rattle.trac_core.specs.Performed.{needs_device}
use Rattle.trac_core.specs.OpenCalls.{asks_host}
use Rattle.trac_core.specs.StepOutcomes.{NoneFailed}
use Rattle.trac_core.specs.Machine.{MachineState, KeepsSettings, moment, GoesOn, Answers, KeepsFormsAndMeta}

-- a step that needs no device, and at which no turn stops, leads from machine `old` to `new`, whatever
-- the devices hold, and leaves the devices as they are
pub record StepsAlone (old new : MachineState) : Type 0 where
  pub alone : needs_device old.memory ≡ false
  pub unasked : asks_host old ≡ false
  pub goes : (source : Stream) (written : Text) →
      GoesOn (moment old source written) (moment new source written)
  pub going : new.fate ≡ None
  pub settings : KeepsSettings old new

-- n steps that need no device lead from machine `old` to `new`
abbrev pub GoesAlone : ℕ → MachineState → MachineState → Type 0
GoesAlone zero old new = new ≡ old
GoesAlone (suc n) old new =
    (middle : MachineState) × (GoesAlone n old middle × StepsAlone middle new)

-- a step that needs no device, and at which no turn stops, ends the run with `fate`: no device failed,
-- and a step was allowed
pub record EndsAlone (old : MachineState) (fate : Fate) (new : MachineState) : Type 0 where
  pub alone : needs_device old.memory ≡ false
  pub unasked : asks_host old ≡ false
  pub ends : (source : Stream) (written : Text) →
      Answers (moment old source written) (Some fate) (moment new source written)
  pub none_failed : NoneFailed (Some fate)
  pub keeps : KeepsFormsAndMeta old.memory new.memory

-- a machine may do no step by itself: its allowance is used up, or the next step needs a device, or
-- turns stop before it
abbrev pub NeedsMore : MachineState → Type 0
NeedsMore m =
    (m.steps ≡ m.allowance) ⊎ ((needs_device m.memory ≡ true) ⊎ (asks_host m ≡ true))

-- why steps without a device stop after `done`: these are as many as are wanted, or the next one needs
-- a device or is not allowed, or turns stop before it, or it ended the run
abbrev pub StopsAlone :
    (most done : ℕ) → (before : MachineState) → Option Fate → (new : MachineState) → Type 0
StopsAlone most done before None new = (new ≡ before) × ((done ≡ most) ⊎ NeedsMore before)
StopsAlone most done before (Some fate) new = (done < most) × EndsAlone before fate new

-- `done` steps that need no device lead on from machine `old`, and there is a reason for no more of them
abbrev pub Advanced : (most done : ℕ) → (old new : MachineState) → Type 0
Advanced most done old new =
    (before : MachineState) × (GoesAlone done old before
    × StopsAlone most done before new.fate new)

-- the machine over the contents `w` after the steps that `to` counts
abbrev pub advanced_to : Bool → Contents → ℕ → Counters → Advance → MachineState
advanced_to stops w meta at to =
    record {
      memory = memory_of meta w;
      room = w.room;
      allowance = at.allowance;
      steps = to.steps;
      peak = to.peak;
      fate = to.fate;
      stops = stops;
    }
