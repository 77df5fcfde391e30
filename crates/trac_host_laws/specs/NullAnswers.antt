-- A run whose host gives the null value to each call of no function.
use Rattle.std.specs.Prelude.{◌≡◌, ℕ, zero, suc, Bool, true, false, [], nat_lt}
use Rattle.trac_language.specs.declared.fate.Fate.TheVariants.{Workspace, Steps}
use Rattle.trac_language.specs.State.{State}
use Rattle.trac_language.specs.Step.{Outcome, need, step}
use Rattle.trac_language.specs.Run.{Run, go_on, run, stopped}
use Rattle.trac_core.specs.OpenCalls.{calls_unknown}
use Rattle.trac_core.specs.Answering.{answer_need, answered}
use Rattle.trac_core.specs.declared.machine.answering.Delivery.TheVariants.{ByMode}

-- the outcome of a step, whose call the host answers if its name is no function
abbrev pub hosted_step_if : Bool → State → Outcome
hosted_step_if true state = answered ByMode [] state
hosted_step_if false state = step state

abbrev pub hosted_step : State → Outcome
hosted_step state = hosted_step_if (calls_unknown state.memory) state

-- the cells that it needs
abbrev pub hosted_need_if : Bool → State → ℕ
hosted_need_if true state = answer_need [] state.memory
hosted_need_if false state = need state

abbrev pub hosted_need : State → ℕ
hosted_need state = hosted_need_if (calls_unknown state.memory) state

-- a step whose need may be greater than the room
abbrev pub hosted_within : Bool → State → (State → Run) → Run
hosted_within true state rest = stopped Workspace state
hosted_within false state rest = go_on (hosted_need state) (hosted_step state) state rest

-- a run with a room in cells and an allowance of steps
abbrev pub hosted_run : (room allowance : ℕ) → State → Run
hosted_run room zero state = stopped Steps state
hosted_run room (suc allowance) state =
    hosted_within (nat_lt room (hosted_need state)) state (hosted_run room allowance)

-- it is the definition's run
abbrev pub NullAnswersChangeNothing : Type 0
NullAnswersChangeNothing =
    (room allowance : ℕ) → (state : State) → hosted_run room allowance state ≡ run room allowance state
