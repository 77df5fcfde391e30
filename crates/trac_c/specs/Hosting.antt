-- What C is told of a call of no function that it answers.
use Rattle.std.specs.Prelude.{◌≡◌, ℕ, ◌==◌, ◌⊎◌, Option, Some, None, if◌then◌else◌}
use Rattle.trac_language.specs.declared.fate.Fate.{Fate}
use Rattle.trac_language.specs.Text.{Text}
use Rattle.trac_devices.specs.Devices.{Stream}
use Rattle.trac_core.specs.declared.machine.answering.Delivery.{Delivery}
use Rattle.trac_core.specs.declared.machine.answering.Delivery.TheVariants.{ByMode, Scanned, Unscanned}
use Rattle.trac_core.specs.Machine.{MachineState, KeepsSettings, moment}
use Rattle.trac_core.specs.Answering.{Answered, IsAnswerable}
use Rattle.trac_c.specs.Reports.{refused}
use Rattle.trac_c.specs.Traced.{answer_number, is_set}
use Rattle.trac_c.specs.declared.report.TracReport.{TracReport}

-- a machine whose turns stop before calls of no function, if the number isn't 0
abbrev pub stopping : ℕ → MachineState → MachineState
stopping stops m = record m { stops = is_set stops }

-- how a value is delivered, by a number
abbrev pub delivery_of : ℕ → Option Delivery
delivery_of how =
    if how == 0 then Some ByMode
    else (if how == 1 then Some Scanned else (if how == 2 then Some Unscanned else None))

-- the report of a step that reads and prints nothing
abbrev pub reported_step : Option Fate → MachineState → TracReport
reported_step fate m = record {
  fate = answer_number fate;
  peak = m.peak;
  steps = m.steps;
  written = 0;
  consumed = 0;
  wanted = 0;
}

-- nothing has changed, and the report says so
abbrev pub Refuses : MachineState → TracReport → MachineState → Type 0
Refuses old told new = (told ≡ refused) × (new ≡ old)

-- the machine `old` was given a value for the call that its next step performs, with this answer; it is `new` then
abbrev pub ValueGiven : Delivery → Text → MachineState → Option Fate → MachineState → Type 0
ValueGiven how value old fate new =
    IsAnswerable old × ((new.fate ≡ fate) × ((source : Stream) (written : Text) →
    Answered how value (moment old source written) fate (moment new source written)))

-- what `told` says of a value that the host gives: there is no such way to deliver it, or no call that
-- asks for one; or the step was made, or ended the run
abbrev pub ValueTold : Option Delivery → Text → MachineState → TracReport → MachineState → Type 0
ValueTold None value old told new = Refuses old told new
ValueTold (Some how) value old told new =
    ((IsAnswerable old → ⊥) × Refuses old told new)
    ⊎ ((fate : Option Fate) × ((told ≡ reported_step fate new) × ValueGiven how value old fate new))

-- the host gives a value for the call that the next step of `old` performs
pub record GivesValue (how : ℕ) (value : Text) (old : MachineState) (told : TracReport)
    (new : MachineState) : Type 0 where
  pub tells : ValueTold (delivery_of how) value old told new
  pub settings : KeepsSettings old new
