-- What contracts see of a machine, what a step of it answers, and what a run of it reports.
use Rattle.std.specs.Prelude.{◌≡◌, ◌≢◌, ℕ, ◌+◌, ◌-◌, ◌<◌, ◌≤◌, max, Bool, true, false, []}
use Rattle.std.specs.Prelude.{◌++◌, length, Option, Some, None}
use Rattle.trac_language.specs.declared.fate.Fate.{Fate}
use Rattle.trac_language.specs.declared.fate.Fate.TheVariants.{Halted, InputEnded, Workspace, Steps}
use Rattle.trac_language.specs.declared.fate.Fate.TheVariants.{InputFailed, OutputFailed}
use Rattle.trac_language.specs.Text.{Text}
use Rattle.trac_language.specs.State.{Memory, Input, State, empty, first, size}
use Rattle.trac_language.specs.Step.{Next, Over, step, need}
use Rattle.trac_language.specs.Run.{Run, run}
use Rattle.trac_laws.specs.LastRead.{reads_to_end}
use Rattle.trac_laws.specs.StateAfter.{state_after}
use Rattle.trac_devices.specs.Devices.{Stream}
use Rattle.trac_language.specs.declared.report.Report.{Report}

-- what a contract sees of a machine
pub record MachineState : Type 0 where
  pub memory : Memory
  pub room : ℕ
  pub allowance : ℕ
  pub steps : ℕ
  pub peak : ℕ
  pub fate : Option Fate
  -- whether turns of it stop before a call whose name is no function
  pub stops : Bool

-- a machine that was just made
abbrev pub fresh_machine : ℕ → ℕ → MachineState
fresh_machine room allowance =
    record {
      memory = empty;
      room = room;
      allowance = allowance;
      steps = 0;
      peak = 0;
      fate = None;
      stops = false;
    }

-- a machine holds to its limits
pub record KeepsLimits (m : MachineState) : Type 0 where
  pub cells : size m.memory ≤ m.room
  pub steps : m.steps ≤ m.allowance
  pub peak : m.peak ≤ m.room

-- the room, the allowance and what turns stop before are as they were
pub record KeepsSettings (old new : MachineState) : Type 0 where
  pub room : new.room ≡ old.room
  pub allowance : new.allowance ≡ old.allowance
  pub stops : new.stops ≡ old.stops

-- a machine between its source and its sink
pub record Moment : Type 0 where
  pub machine : MachineState
  pub source : Stream
  pub written : Text

abbrev pub moment : MachineState → Stream → Text → Moment
moment machine source written = record { machine = machine; source = source; written = written }

abbrev pub ending : Text → Input
ending text = record { text = text; fails = false }

abbrev pub failing : Text → Input
failing text = record { text = text; fails = true }

-- the state that has a memory, an input and an output
abbrev pub state_with : Memory → Input → Text → State
state_with memory input output = record { memory = memory; input = input; output = output }

-- the state that a moment stands for: its input is the bytes to come and then the end
abbrev pub state_of : Moment → State
state_of m = state_with m.machine.memory (ending m.source.bytes) m.written

-- the state that a moment stands for if its source gives these bytes and then fails
abbrev pub failing_state_of : Moment → Text → State
failing_state_of m given = state_with m.machine.memory (failing given) m.written

-- machine `m` may do one more step, and what the step from state `s` needs fits the room
pub record MayStep (m : MachineState) (s : State) : Type 0 where
  pub allowed : m.steps < m.allowance
  pub fits : need s ≤ m.room

-- from `old` to `new` the machine counted `more` steps, and a step that needed `needed` cells
pub record Counts (old new : MachineState) (more needed : ℕ) : Type 0 where
  pub steps : new.steps ≡ old.steps + more
  pub peak : new.peak ≡ max old.peak needed

-- the allowance is used up: nothing happens
pub record StopsAtAllowance (old new : Moment) : Type 0 where
  pub used_up : old.machine.steps ≡ old.machine.allowance
  pub memory : new.machine.memory ≡ old.machine.memory
  pub counts : Counts old.machine new.machine 0 0
  pub source : new.source ≡ old.source
  pub written : new.written ≡ old.written

-- the step needs more than the room: it isn't done
pub record StopsAtRoom (old new : Moment) : Type 0 where
  pub allowed : old.machine.steps < old.machine.allowance
  pub full : old.machine.room < need (state_of old)
  pub counts : Counts old.machine new.machine 0 0
  pub written : new.written ≡ old.written

-- the source failed after it gave some bytes, and the step over these is the end InputFailed
pub record StopsAtInput (old new : Moment) (given : Text) : Type 0 where
  pub consumed : old.source.bytes ≡ given ++ new.source.bytes
  pub not_ended : old.source.ended ≡ false
  pub may : MayStep old.machine (failing_state_of old given)
  pub ends : step (failing_state_of old given) ≡ Over InputFailed
  pub counts : Counts old.machine new.machine 0 (need (failing_state_of old given))
  pub written : new.written ≡ old.written

-- the sink failed: of what the step prints, `put` and `rest`, only `put` was written
pub record StopsAtOutput (old new : Moment) (next : State) (put rest : Text) : Type 0 where
  pub may : MayStep old.machine (state_of old)
  pub goes : step (state_of old) ≡ Next next
  pub prints : next.output ≡ old.written ++ (put ++ rest)
  pub some : put ++ rest ≢ []
  pub counts : Counts old.machine new.machine 0 (need (state_of old))
  pub written : new.written ≡ old.written ++ put

-- the step is an end of the language, which counts as a step
pub record EndsRun (fate : Fate) (old new : Moment) : Type 0 where
  pub may : MayStep old.machine (state_of old)
  pub ends : step (state_of old) ≡ Over fate
  pub counts : Counts old.machine new.machine 1 (need (state_of old))
  pub source : new.source.bytes ≡ old.source.bytes
  pub written : new.written ≡ old.written

-- one more step is done, and the moment after it stands for the next state; a source that had
-- ended, or that was read to the end by a call of `rs`, has ended
pub record GoesOn (old new : Moment) : Type 0 where
  pub may : MayStep old.machine (state_of old)
  pub goes : step (state_of old) ≡ Next (state_of new)
  pub counts : Counts old.machine new.machine 1 (need (state_of old))
  pub stays_ended : old.source.ended ≡ true → new.source.ended ≡ true
  pub read_all : reads_to_end (state_of old) ≡ true → new.source.ended ≡ true

-- what a step's answer says of the moments before and after it, if the run was not over
abbrev pub Answers : Moment → Option Fate → Moment → Type 0
Answers old (Some Steps) new = StopsAtAllowance old new
Answers old (Some Workspace) new = StopsAtRoom old new
Answers old (Some InputFailed) new = (given : Text) × StopsAtInput old new given
Answers old (Some OutputFailed) new =
    (next : State) × ((put : Text) × ((rest : Text) × StopsAtOutput old new next put rest))
Answers old (Some Halted) new = EndsRun Halted old new
Answers old (Some InputEnded) new = EndsRun InputEnded old new
Answers old None new = GoesOn old new

-- a step of `m` consumed the bytes `taken` of its source: at most two more than the free cells
pub record Takes (m : MachineState) (old new : Stream) (taken : Text) : Type 0 where
  pub consumed : old.bytes ≡ taken ++ new.bytes
  pub few : length taken + size m.memory ≤ m.room + 2

-- a machine whose run is over gives the same answer again, and stays as it is
pub record StaysOver (old : MachineState) (answer : Option Fate) (new : MachineState) : Type 0 where
  pub again : answer ≡ old.fate
  pub same : new ≡ old
  pub steps : new.steps ≡ old.steps
  pub peak : new.peak ≡ old.peak

-- the failures of the source that an answer tells, for a run that was not over
abbrev pub input_failures : Option Fate → Option Fate → ℕ
input_failures None (Some InputFailed) = 1
input_failures _ _ = 0

-- the failures of the sink that an answer tells, for a run that was not over
abbrev pub output_failures : Option Fate → Option Fate → ℕ
output_failures None (Some OutputFailed) = 1
output_failures _ _ = 0

-- the failures of the source that a report tells
abbrev pub reported_input_failures : Fate → ℕ
reported_input_failures InputFailed = 1
reported_input_failures _ = 0

-- the failures of the sink that a report tells
abbrev pub reported_output_failures : Fate → ℕ
reported_output_failures OutputFailed = 1
reported_output_failures _ = 0

-- the limits of a run, and what its devices held before it and hold after it
pub record Course : Type 0 where
  pub room : ℕ
  pub allowance : ℕ
  pub bytes : Text
  pub bytes_left : Text
  pub before : Text
  pub after : Text

-- `report`, and what was written in the course `c`, are those of the run `r`
pub record IsReportOf (r : Run) (c : Course) (report : Report) : Type 0 where
  pub fate : report.fate ≡ r.fate
  pub steps : report.steps ≡ r.steps
  pub peak : report.peak ≡ r.peak
  pub written : c.after ≡ c.before ++ r.output

-- no device failed, and the source holds what the run did not consume
pub record RanThrough (runs : Input → ℕ → Run) (c : Course) (report : Report) : Type 0 where
  pub is_report : IsReportOf (runs (ending c.bytes) c.allowance) c report
  pub left : c.bytes_left ≡ (runs (ending c.bytes) c.allowance).left

-- the source failed after it gave the bytes `given`: the run is that over `given` and then a failure
pub record RanToFailure (runs : Input → ℕ → Run) (c : Course) (report : Report) (given : Text)
    : Type 0 where
  pub consumed : c.bytes ≡ given ++ c.bytes_left
  pub is_report : IsReportOf (runs (failing given) c.allowance) c report

-- the sink failed in the step after those that the report counts:
-- of what that step prints, `put` and `rest`, only `put` was written
pub record BrokeOff (runs : Input → ℕ → Run) (c : Course) (report : Report) (put rest : Text)
    : Type 0 where
  pub allowed : report.steps < c.allowance
  pub before_step : (runs (ending c.bytes) report.steps).fate ≡ Steps
  pub after_step : (runs (ending c.bytes) (report.steps + 1)).fate ≡ Steps
  pub peak : report.peak ≡ (runs (ending c.bytes) (report.steps + 1)).peak
  pub prints :
      (runs (ending c.bytes) (report.steps + 1)).output
      ≡ (runs (ending c.bytes) report.steps).output ++ (put ++ rest)
  pub some : put ++ rest ≢ []
  pub written : c.after ≡ c.before ++ ((runs (ending c.bytes) report.steps).output ++ put)

-- what a report with a given fate says, where `runs` gives the definition's run for each input and
-- allowance
abbrev pub ReportsOf : (Input → ℕ → Run) → Fate → Course → Report → Type 0
ReportsOf runs Halted c report = RanThrough runs c report
ReportsOf runs InputEnded c report = RanThrough runs c report
ReportsOf runs Steps c report = RanThrough runs c report
ReportsOf runs Workspace c report = IsReportOf (runs (ending c.bytes) c.allowance) c report
ReportsOf runs InputFailed c report = (given : Text) × RanToFailure runs c report given
ReportsOf runs OutputFailed c report =
    (put : Text) × ((rest : Text) × BrokeOff runs c report put rest)

-- the definition's runs in a room, from the first state
abbrev pub first_runs : ℕ → Input → ℕ → Run
first_runs room input allowance = run room allowance (first input)

-- what a report with this fate says of the run
abbrev pub Reports : Fate → Course → Report → Type 0
Reports fate c report = ReportsOf (first_runs c.room) fate c report

-- the run `r` counted on from `steps` steps before it, of whose needs `peak` is the greatest
abbrev pub after_steps : (steps peak : ℕ) → Run → Run
after_steps steps peak r = record r { steps = steps + r.steps; peak = max peak r.peak }

-- the definition's runs from where a machine stands, after its steps: they print what follows
abbrev pub later_runs : MachineState → Input → ℕ → Run
later_runs m input allowance =
    after_steps m.steps m.peak (run m.room (allowance - m.steps) (state_with m.memory input []))

-- what a report with this fate says of a run that goes on from where a machine stands
abbrev pub Resumes : MachineState → Fate → Course → Report → Type 0
Resumes m fate c report = ReportsOf (later_runs m) fate c report

-- the course of a run of this machine from what its devices held to what they hold now
abbrev pub course : MachineState → Stream → Text → Stream → Text → Course
course m old_source old_written new_source new_written =
    record {
      room = m.room;
      allowance = m.allowance;
      bytes = old_source.bytes;
      bytes_left = new_source.bytes;
      before = old_written;
      after = new_written;
    }

-- the forms and the meta character are as they were
abbrev pub KeepsFormsAndMeta : Memory → Memory → Type 0
KeepsFormsAndMeta old new = (new.forms ≡ old.forms) × (new.meta ≡ old.meta)

-- the memory after n steps of the definition, or before the step that ends the run earlier
abbrev pub memory_after : ℕ → Memory → Input → Text → Memory
memory_after n memory input output = (state_after n (state_with memory input output)).memory

-- what a run with this fate leaves of the memory `old` after n steps: the whole memory after the
-- definition's steps, if the allowance was used up; else the forms and the meta character of that memory
abbrev pub LeavesMemory : Fate → Course → (old : Memory) → (done : ℕ) → (new : Memory) → Type 0
LeavesMemory Halted c old n new =
    KeepsFormsAndMeta (memory_after n old (ending c.bytes) c.before) new
LeavesMemory InputEnded c old n new =
    KeepsFormsAndMeta (memory_after n old (ending c.bytes) c.before) new
LeavesMemory Workspace c old n new =
    KeepsFormsAndMeta (memory_after n old (ending c.bytes) c.before) new
LeavesMemory Steps c old n new = new ≡ memory_after n old (ending c.bytes) c.before
LeavesMemory OutputFailed c old n new =
    KeepsFormsAndMeta (memory_after n old (ending c.bytes) c.before) new
LeavesMemory InputFailed c old n new =
    (given : Text) × ((c.bytes ≡ given ++ c.bytes_left)
    × KeepsFormsAndMeta (memory_after n old (failing given) c.before) new)

-- the machine after a step that was done: the step is counted, and what it needed
abbrev pub one_step_on : Option Fate → Memory → ℕ → MachineState → MachineState
one_step_on fate memory needed m =
    record m { memory = memory; steps = m.steps + 1; peak = max m.peak needed; fate = fate }

-- the machine after a step in which a device failed: the step isn't counted, but what it needed is
abbrev pub broken_off : Option Fate → Memory → ℕ → MachineState → MachineState
broken_off fate memory needed m =
    record m { memory = memory; peak = max m.peak needed; fate = fate }

-- the machine after an answer, with this memory and with what the step needed
abbrev pub counted : MachineState → Memory → ℕ → Option Fate → MachineState
counted m memory needed None = one_step_on None memory needed m
counted m memory needed (Some Halted) = one_step_on (Some Halted) memory needed m
counted m memory needed (Some InputEnded) = one_step_on (Some InputEnded) memory needed m
counted m memory needed (Some InputFailed) = broken_off (Some InputFailed) memory needed m
counted m memory needed (Some OutputFailed) = broken_off (Some OutputFailed) memory needed m
counted m memory needed (Some Workspace) = record m { memory = memory; fate = Some Workspace }
counted m memory needed (Some Steps) = record m { memory = memory; fate = Some Steps }

-- whether a step with this answer counts
abbrev pub counts_as_step : Option Fate → Bool
counts_as_step None = true
counts_as_step (Some Halted) = true
counts_as_step (Some InputEnded) = true
counts_as_step (Some Workspace) = false
counts_as_step (Some Steps) = false
counts_as_step (Some InputFailed) = false
counts_as_step (Some OutputFailed) = false
