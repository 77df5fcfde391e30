-- A call of no function to which the host gives a value.
use Rattle.std.specs.Prelude.{◌≡◌, ℕ, ◌+◌, ◌-◌, ◌<◌, ◌≤◌, Bool, true, false, List, [], ◌∷◌, length}
use Rattle.std.specs.Prelude.{Option, Some, None, ◌&&◌, is_none, nat_lt}
use Rattle.trac_language.specs.declared.mode.Mode.{Mode}
use Rattle.trac_language.specs.declared.mode.Mode.TheVariants.{Neutral}
use Rattle.trac_language.specs.declared.fate.Fate.{Fate}
use Rattle.trac_language.specs.declared.fate.Fate.TheVariants.{Workspace, Steps}
use Rattle.trac_language.specs.Text.{Text}
use Rattle.trac_language.specs.Meaning.{World, Meaning, valued, forced}
use Rattle.trac_language.specs.State.{OpenCall, State, Memory, size}
use Rattle.trac_language.specs.Rule.{Rule, EndCall, rule}
use Rattle.trac_language.specs.Step.{Outcome, Next, follow, perform, with_active, world_of}
use Rattle.trac_core.specs.declared.machine.answering.Delivery.{Delivery}
use Rattle.trac_core.specs.declared.machine.answering.Delivery.TheVariants.{ByMode, Scanned, Unscanned}
use Rattle.trac_core.specs.Machine.{MachineState, Moment, state_of, Counts, StopsAtAllowance}
use Rattle.trac_core.specs.OpenCalls.{asks_host, calls_unknown}

-- whether the host's value goes before the active string whatever the call's mode
abbrev pub is_forced : Delivery → Bool
is_forced ByMode = false
is_forced Scanned = true
is_forced Unscanned = false

-- the mode by which the host's value is delivered, where that of the call is `mode`
abbrev pub mode_by : Delivery → Mode → Mode
mode_by ByMode mode = mode
mode_by Scanned mode = mode
mode_by Unscanned mode = Neutral

-- what a call means to which the host gives a value
abbrev pub answer_of : Delivery → Text → World → Meaning
answer_of ByMode value world = valued value world
answer_of Scanned value world = forced value world
answer_of Unscanned value world = valued value world

-- the innermost open call is performed, with the value that the host gives
abbrev pub end_answered : Delivery → Text → List OpenCall → State → Outcome
end_answered how value [] state = Next state
end_answered how value (call ∷ outer) state =
    perform (mode_by how call.mode) (answer_of how value (world_of state))
    (record state { memory = record state.memory { calls = outer } })

-- the outcome of a step by a rule, whose call the host answers
abbrev pub follow_answered : Rule → Delivery → Text → State → Outcome
follow_answered (EndCall rest) how value state =
    end_answered how value state.memory.calls (with_active rest state)
follow_answered r how value state = follow r state

-- the outcome of a step that performs a call, to which the host gives a value
abbrev pub answered : Delivery → Text → State → Outcome
answered how value state = follow_answered (rule state.memory.active) how value state

-- the cells that such a step needs
abbrev pub answer_need : Text → Memory → ℕ
answer_need value memory = size memory - 1 + length value

-- whether turns of a machine stop before its next step, if there is one: the run is not over, and
-- the allowance not used up
abbrev pub asks_next : MachineState → Bool
asks_next m = (is_none m.fate && nat_lt m.steps m.allowance) && asks_host m

-- the next step of a machine whose run isn't over performs a call of no function
pub record IsAnswerable (m : MachineState) : Type 0 where
  pub going : m.fate ≡ None
  pub unknown : calls_unknown m.memory ≡ true

-- the step was done with the host's value
pub record GoesAnswered (how : Delivery) (value : Text) (old new : Moment) : Type 0 where
  pub allowed : old.machine.steps < old.machine.allowance
  pub fits : answer_need value old.machine.memory ≤ old.machine.room
  pub goes : answered how value (state_of old) ≡ Next (state_of new)
  pub counts : Counts old.machine new.machine 1 (answer_need value old.machine.memory)
  pub source : new.source ≡ old.source

-- the step with the host's value needs more than the room: it isn't done
pub record FullAnswered (value : Text) (old new : Moment) : Type 0 where
  pub allowed : old.machine.steps < old.machine.allowance
  pub full : old.machine.room < answer_need value old.machine.memory
  pub counts : Counts old.machine new.machine 0 0
  pub memory : new.machine.memory ≡ old.machine.memory
  pub source : new.source ≡ old.source
  pub written : new.written ≡ old.written

-- what a machine answers that is given the value of the call that its next step performs
abbrev pub Answered : Delivery → Text → Moment → Option Fate → Moment → Type 0
Answered how value old None new = GoesAnswered how value old new
Answered how value old (Some Workspace) new = FullAnswered value old new
Answered how value old (Some Steps) new = StopsAtAllowance old new
Answered how value old (Some _) new = ⊥
