-- What C is told of a check.
use Rattle.std.specs.Prelude.{◌≡◌, ℕ, ◌<◌, ◌≤◌, ◌⊎◌, false, List, length, min}
use Rattle.trac_language.specs.Text.{Text}
use Rattle.trac_language.specs.declared.report.Report.{Report}
use Rattle.trac_devices.specs.Devices.{Stream}
use Rattle.trac_lent.specs.Arenas.{Lists}
use Rattle.trac_checker.specs.Warned.{Found, lines_of}
use Rattle.trac_checker.specs.WatchedRuns.{WatchesRun}
use Rattle.trac_c.specs.Buffers.{laid}
use Rattle.trac_c.specs.Reports.{number, refused}
use Rattle.trac_c.specs.declared.report.TracReport.{TracReport}

-- the report where the memory ran out
abbrev pub no_memory : TracReport
no_memory = record { fate = 10; peak = 0; steps = 0; written = 0; consumed = 0; wanted = 0 }

-- `told` gives `report` in numbers, of a check in `room` cells with at most `allowance` steps; as many bytes of
-- `lines` as fit stand at the front of the buffer
pub record Finds (room allowance : ℕ) (lines old_buffer buffer : Text) (told : TracReport) (report : Report)
    : Type 0 where
  pub fate : told.fate ≡ number report.fate
  pub steps : (told.steps ≡ report.steps) × (report.steps ≤ allowance)
  pub peak : (told.peak ≡ report.peak) × (report.peak ≤ room)
  pub laid : buffer ≡ laid lines old_buffer
  pub wanted : told.wanted ≡ length lines
  pub written : told.written ≡ min (length lines) (length old_buffer)
  pub consumed : told.consumed ≡ 0

-- a run of `script` was watched step by step, with the lists of the check in lent memory: it defined forms of `names`,
-- what looks suspicious in it is `found`, and `report` tells how it ended
abbrev pub IsWatched : (room allowance : ℕ) → Text → (names : List Text) → Found → Report → Type 0
IsWatched room allowance script names found report = (left : Stream) ×
    WatchesRun Lists script room allowance (record { bytes = script; ended = false }) left names found report

-- `told` reports a run of `script` that was watched, and the buffer has the lines on what was found
abbrev pub Findings : (room allowance : ℕ) → (script old_buffer buffer : Text) → TracReport → Type 0
Findings room allowance script old_buffer buffer told =
    (names : List Text) × ((found : Found) × ((report : Report)
    × (IsWatched room allowance script names found report
    × Finds room allowance (lines_of script names found report) old_buffer buffer told report)))

-- `told` reports a run of `script` that was watched; or the lent memory ran out, and the buffer stays as it is
abbrev pub Checked : (room allowance : ℕ) → (script old_buffer buffer : Text) → TracReport → Type 0
Checked room allowance script old_buffer buffer told =
    ((told ≡ no_memory) × (buffer ≡ old_buffer)) ⊎ Findings room allowance script old_buffer buffer told

-- more cells than a machine may have are refused, and the buffer stays as it is; else the script is checked
pub record CheckReported (room allowance : ℕ) (script old_buffer buffer : Text) (told : TracReport) : Type 0 where
  pub too_many : 16777216 < room → (told ≡ refused) × (buffer ≡ old_buffer)
  pub checked : room ≤ 16777216 → Checked room allowance script old_buffer buffer told
