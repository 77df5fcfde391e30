-- What C is told of a step that is shown.
use Rattle.std.specs.Prelude.{◌≡◌, ◌≢◌, ℕ, ◌-◌, ◌==◌, ◌⊎◌, ◌++◌, [], List, Bool, true, false, not, nat_eq, max}
use Rattle.std.specs.Prelude.{length, take, Option, Some, None, if◌then◌else◌}
use Rattle.trac_language.specs.declared.fate.Fate.{Fate}
use Rattle.trac_language.specs.declared.fate.Fate.TheVariants.{Halted, InputEnded, Workspace, Steps}
use Rattle.trac_language.specs.declared.fate.Fate.TheVariants.{InputFailed, OutputFailed}
use Rattle.trac_language.specs.Text.{Text}
use Rattle.trac_devices.specs.Devices.{Stream}
use Rattle.trac_core.specs.Machine.{MachineState, Answers, moment}
use Rattle.trac_events.specs.Calls.{IsSeen, depth_in}
use Rattle.trac_events.specs.declared.before.Before.{Before}
use Rattle.trac_views.specs.Faults.{AddsEnd}
use Rattle.trac_views.specs.Lines.{folded_text, head_text}
use Rattle.trac_views.specs.declared.views.Views.{Views}
use Rattle.trac_tracer.specs.ShownRuns.{AreLinesOf, StepDone, first_progress}
use Rattle.trac_tracer.specs.declared.shown.Progress.{Progress}
use Rattle.trac_c.specs.Buffers.{laid}
use Rattle.trac_c.specs.Reports.{number}
use Rattle.trac_c.specs.Turns.{TurnedOrOver, waits_for_input}
use Rattle.trac_c.specs.declared.report.TracReport.{TracReport}
use Rattle.trac_c.specs.declared.trace.TracTrace.{TracTrace}

-- whether C says yes by a number
abbrev pub is_set : ℕ → Bool
is_set flag = not (nat_eq flag 0)

-- the views that C asks for
abbrev pub views_of : TracTrace → Views
views_of trace = record {
  from = trace.from;
  to = trace.to;
  last = 0;
  width = trace.width;
  columns = trace.columns;
  calls = is_set trace.calls;
  forms = is_set trace.forms;
  warn = false;
}

-- how far the run has come, as C keeps it
abbrev pub progress_of : TracTrace → Progress
progress_of trace = record {
  reading = if is_set trace.begun then record {
    next = record { line = trace.line; column = trace.column };
    string = record { line = trace.string_line; column = trace.string_column };
  } else first_progress.reading;
  depth = trace.depth;
  peak = trace.peak;
}

-- the line above all others, which stands before the first step's
abbrev pub head_of : TracTrace → List ℕ
head_of trace = if is_set trace.begun then [] else head_text (is_set trace.calls) (is_set trace.forms)

-- a machine whose peak counts from 0
abbrev pub uncounted : MachineState → MachineState
uncounted m = record m { peak = 0 }

-- a trace without lines, which has taken over a peak
abbrev pub counting : (peak : ℕ) → TracTrace → TracTrace
counting peak trace = record trace { peak = max trace.peak peak; lines = 0 }

-- the fate that has this number
abbrev pub fate_of : ℕ → Option Fate
fate_of n =
    if n == 1 then Some Halted
    else (if n == 2 then Some InputEnded
    else (if n == 3 then Some Workspace
    else (if n == 4 then Some Steps
    else (if n == 5 then Some InputFailed
    else (if n == 6 then Some OutputFailed
    else None)))))

-- the number of an answer of a step: 0 where the run goes on
abbrev pub answer_number : Option Fate → ℕ
answer_number None = 0
answer_number (Some fate) = number fate

-- whether a report says that no step was made: its turn waits for input, for room, or for the host's value of
-- a call
abbrev pub is_waiting : ℕ → Bool
is_waiting fate = if fate == 7 then true else (if fate == 8 then true else (fate == 11))

-- `told` reports a step of a machine behind whose `input` reading fails; its output stands at the front of the buffer
abbrev pub FailsBehind : (input buffer : Text) → (old : MachineState) → TracReport → (new : MachineState) → Type 0
FailsBehind input buffer old told new =
    (answer : Option Fate) × ((left : Stream)
    × ((told.fate ≡ answer_number answer) × (told.steps ≡ new.steps) × (told.peak ≡ new.peak)
    × (told.consumed ≡ length input - length left.bytes) × (told.wanted ≡ 0)
    × (old.fate ≡ None → Answers (moment old (record { bytes = input; ended = false }) []) answer
    (moment new left (take told.written buffer)))))

-- a machine makes a step as a turn does, behind whose input more may come (`ended` is 0), the input ends (1) or reading
-- fails (2). Where it fails, and the turn would wait for input, the step is made, and ends the run
abbrev pub Stepped : (ended : ℕ) → (input buffer : Text) → (old : MachineState) → TracReport → (new : MachineState)
    → Type 0
Stepped ended input buffer old told new =
    (TurnedOrOver (nat_eq ended 1) 1 input buffer old told new × (ended ≡ 2 → told.fate ≢ 7))
    ⊎ ((ended ≡ 2) × (old.fate ≡ None) × (waits_for_input false old input ≡ true)
    × FailsBehind input buffer old told new)

-- the lines of a step, and those on the end of the run where the step ended it
abbrev pub WithEnd : Views → Option Fate → (peak : ℕ) → MachineState → (lines all : List ℕ) → Type 0
WithEnd views None peak m lines all = all ≡ lines
WithEnd views (Some fate) peak m lines all = AddsEnd views fate peak m lines all

-- all lines of a step, folded and with the head
abbrev pub written_text : TracTrace → List ℕ → List ℕ
written_text trace all = folded_text trace.columns 0 (head_of trace) ++ folded_text trace.columns 0 all

-- the last step of which something is shown, with a step of these lines
abbrev pub last_shown : TracTrace → (lines : List ℕ) → (step : ℕ) → ℕ
last_shown trace lines step = if length lines == 0 then trace.shown else step

-- a trace behind a step, in which the input is read somewhere
abbrev pub behind : TracTrace → (depth peak : ℕ) → TracTrace → TracTrace
behind trace depth peak after = record trace {
  depth = depth;
  peak = peak;
  line = after.line;
  column = after.column;
  string_line = after.string_line;
  string_column = after.string_column;
  begun = 1;
}

-- the step from machine `old` to machine `next`, as what is shown of it is told
abbrev pub step_told : TracTrace → TracReport → (buffer : Text) → (old next : MachineState) → TracTrace → StepDone
step_told trace turn buffer old next after = record {
  old = old;
  depth_before = trace.depth;
  answer = fate_of turn.fate;
  needed = next.peak;
  printed = take turn.written buffer;
  new = uncounted next;
  depth = after.depth;
}

-- the lines of a step were put to the front of a buffer: `trace` is the one before the step, with the peak before it
pub record AddsStep (trace after : TracTrace) (done : StepDone) (old_lines lines : List ℕ) : Type 0 where
  pub own : List ℕ
  pub all : List ℕ
  pub tells : AreLinesOf (views_of trace) done own
  pub ends : WithEnd (views_of trace) done.answer after.peak done.new own all
  pub laid : lines ≡ laid (written_text trace all) old_lines
  pub trace_is :
      after ≡ record (behind trace done.depth (max trace.peak done.needed) after) {
        lines = length (written_text trace all);
        shown = last_shown trace own done.new.steps;
      }

-- the lent memory ran out behind a step: its lines are lost, and the buffer stays as it is
pub record LosesLines (trace after : TracTrace) (done : StepDone) (old_lines lines : List ℕ) : Type 0 where
  pub asked : Bool
  pub before : Before
  pub seen : IsSeen done.old asked before
  pub depth_is : done.depth ≡ depth_in before done.new done.depth_before
  pub kept : lines ≡ old_lines
  pub trace_is : after ≡ behind trace done.depth (max trace.peak done.needed) after

-- the report of a step that is shown, by that of its turn
abbrev pub reported : (fate peak : ℕ) → TracReport → TracReport
reported fate peak turn = record turn { fate = fate; peak = peak }

-- what is told of a step: nothing where the turn waits; else its lines, or that they are lost
pub record Tells (trace after : TracTrace) (turn told : TracReport) (done : StepDone) (old_lines lines : List ℕ)
    : Type 0 where
  pub waits :
      is_waiting turn.fate ≡ true →
      (told ≡ reported turn.fate after.peak turn) × (after ≡ trace) × (lines ≡ old_lines)
  pub tells :
      is_waiting turn.fate ≡ false →
      ((told ≡ reported turn.fate after.peak turn) × AddsStep trace after done old_lines lines)
      ⊎ ((told ≡ reported 10 after.peak turn) × LosesLines trace after done old_lines lines)

-- a machine made a step, or waits, and it was told
abbrev pub StepTraced : (ended : ℕ) → (input buffer old_lines lines : Text) → (trace : TracTrace)
    → (old : MachineState) → TracReport → (after : TracTrace) → (new : MachineState) → Type 0
StepTraced ended input buffer old_lines lines trace old told after new =
    (turn : TracReport) × ((next : MachineState)
    × (Stepped ended input buffer old turn next
    × ((new ≡ uncounted next)
    × Tells trace after turn told (step_told trace turn buffer old next after) old_lines lines)))

-- the lent memory is too small to look at the step: none was made
abbrev pub Unseen : (old_buffer buffer old_lines lines : Text) → (trace : TracTrace) → (old : MachineState)
    → TracReport → (after : TracTrace) → (new : MachineState) → Type 0
Unseen old_buffer buffer old_lines lines trace old told after new =
    (told ≡ record { fate = 10; peak = trace.peak; steps = old.steps; written = 0; consumed = 0; wanted = 0 })
    × (after ≡ trace) × (new ≡ old) × (buffer ≡ old_buffer) × (lines ≡ old_lines)

-- what became of a step that was to be shown. The trace takes over the machine's peak, which counts from 0 again
abbrev pub Traced : (ended : ℕ) → (input old_buffer buffer old_lines lines : Text) → (trace : TracTrace)
    → (old : MachineState) → TracReport → (after : TracTrace) → (new : MachineState) → Type 0
Traced ended input old_buffer buffer old_lines lines trace old told after new =
    let begun = counting old.peak trace in let m = uncounted old in
    Unseen old_buffer buffer old_lines lines begun m told after new
    ⊎ StepTraced ended input buffer old_lines lines begun m told after new
