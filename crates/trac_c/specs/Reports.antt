-- What C is told of a run.
use Rattle.std.specs.Prelude.{◌≡◌, ℕ, ◌-◌, ◌<◌, ◌≤◌, List, [], length, take}
use Rattle.trac_language.specs.declared.fate.Fate.{Fate}
use Rattle.trac_language.specs.declared.fate.Fate.TheVariants.{Halted, InputEnded, Workspace, Steps}
use Rattle.trac_language.specs.declared.fate.Fate.TheVariants.{InputFailed, OutputFailed}
use Rattle.trac_language.specs.declared.report.Report.{Report}
use Rattle.trac_core.specs.Machine.{Course, Reports}
use Rattle.trac_c.specs.declared.report.TracReport.{TracReport}

-- the number of a fate
abbrev pub number : Fate → ℕ
number Halted = 1
number InputEnded = 2
number Workspace = 3
number Steps = 4
number InputFailed = 5
number OutputFailed = 6

-- the report where the number of cells was refused
abbrev pub refused : TracReport
refused = record { fate = 9; peak = 0; steps = 0; written = 0; consumed = 0; wanted = 0 }

-- the course of the run of a script: what it printed, and which bytes it left
abbrev pub course_of : (room allowance : ℕ) → (script left printed : List ℕ) → Course
course_of room allowance script left printed =
    record {
      room = room;
      allowance = allowance;
      bytes = script;
      bytes_left = left;
      before = [];
      after = printed;
    }

-- `told` gives `report` in numbers, of a run in `room` cells with at most `allowance` steps; its output
-- stands at the front of the buffer, and `left` is what it left of the script
pub record AddsRun (room allowance : ℕ) (script buffer : List ℕ) (told : TracReport)
    (left : List ℕ) (report : Report) : Type 0 where
  pub reports :
      Reports report.fate (course_of room allowance script left (take told.written buffer)) report
  pub fate : told.fate ≡ number report.fate
  pub steps : told.steps ≡ report.steps
  pub peak : told.peak ≡ report.peak
  pub written : told.written ≤ length buffer
  pub consumed : told.consumed ≡ length script - length left
  pub wanted : told.wanted ≡ 0

-- `told` reports a run of `script`, whose output stands at the front of the buffer
abbrev pub Ran : (room allowance : ℕ) → (script buffer : List ℕ) → TracReport → Type 0
Ran room allowance script buffer told =
    (left : List ℕ) × ((report : Report) ×
    AddsRun room allowance script buffer told left report)

-- more cells than a machine may have are refused, and the buffer stays as it is; else the report
-- tells the run
pub record ReportsRun (room allowance : ℕ) (script old_buffer buffer : List ℕ) (told : TracReport)
    : Type 0 where
  pub too_many : 16777216 < room → (told ≡ refused) × (buffer ≡ old_buffer)
  pub ran : room ≤ 16777216 → Ran room allowance script buffer told
