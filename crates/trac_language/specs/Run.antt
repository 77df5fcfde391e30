-- Whole runs.
use Rattle.std.specs.Prelude.{ℕ, zero, suc, max, Bool, true, false, nat_lt}
use Rattle.trac_language.specs.declared.fate.Fate.{Fate}
use Rattle.trac_language.specs.declared.fate.Fate.TheVariants.{Halted, InputEnded, Workspace, Steps}
use Rattle.trac_language.specs.declared.fate.Fate.TheVariants.{InputFailed, OutputFailed}
use Rattle.trac_language.specs.Text.{Text}
use Rattle.trac_language.specs.State.{State}
use Rattle.trac_language.specs.Step.{Outcome, Next, Over, step, need}

-- what a run gives: its output, the input that it leaves,
-- how it ended, the steps done and the greatest need
pub record Run : Type 0 where
  pub output : Text
  pub left : Text
  pub fate : Fate
  pub steps : ℕ
  pub peak : ℕ

-- whether the step that ended the run in this way counts
abbrev pub counted : Fate → ℕ
counted Halted = 1
counted InputEnded = 1
counted Workspace = 0
counted Steps = 0
counted InputFailed = 0
counted OutputFailed = 0

-- the run is over before its next step
abbrev pub stopped : Fate → State → Run
stopped fate state =
    record { output = state.output; left = state.input.text; fate = fate; steps = 0; peak = 0 }

-- a run after one more step
abbrev pub one_more : ℕ → Run → Run
one_more cells run =
    record {
      output = run.output;
      left = run.left;
      fate = run.fate;
      steps = suc run.steps;
      peak = max cells run.peak;
    }

-- what follows a step, whose need in cells is given
abbrev pub go_on : ℕ → Outcome → State → (State → Run) → Run
go_on cells (Over fate) state rest =
    record {
      output = state.output;
      left = state.input.text;
      fate = fate;
      steps = counted fate;
      peak = cells;
    }
go_on cells (Next next) state rest = one_more cells (rest next)

-- a step whose need may be greater than the room
abbrev pub within : Bool → State → (State → Run) → Run
within true state rest = stopped Workspace state
within false state rest = go_on (need state) (step state) state rest

-- a run with a room in cells and an allowance of steps
unfoldable pub run : (room allowance : ℕ) → State → Run
run room zero state = stopped Steps state
run room (suc allowance) state = within (nat_lt room (need state)) state (run room allowance)
