-- A run that is watched, step by step.
use Rattle.std.specs.Prelude.{◌≡◌, ◌≢◌, ℕ, zero, suc, false, List, [], Some, map, reverse}
use Rattle.trac_language.specs.Text.{Text}
use Rattle.trac_language.specs.declared.fate.Fate.{Fate}
use Rattle.trac_language.specs.declared.report.Report.{Report}
use Rattle.trac_devices.specs.Devices.{Stream}
use Rattle.trac_core.specs.Machine.{MachineState, Moment, moment, GoesOn, Answers, Reports, course, fresh_machine}
use Rattle.trac_events.specs.Calls.{IsSeen}
use Rattle.trac_events.specs.declared.before.Before.{Before}
use Rattle.trac_views.specs.CallLines.{is_fault}
use Rattle.trac_warnings.specs.Counted.{counts_behind, counts_of}
use Rattle.trac_warnings.specs.Looked.{Looks}
use Rattle.trac_warnings.specs.StepWarnings.{JudgesStep}
use Rattle.trac_warnings.specs.Watched.{IsFresh, Kept, KeepsPlaces, KeepsRun, Moves, Reads, Stays, said}
use Rattle.trac_warnings.specs.declared.watch.Watch.{Watch}
use Rattle.trac_checker.specs.FoundSoFar.{FoundSoFar, found_in_script, with_all, with_fault}
use Rattle.trac_checker.specs.FoundSoFar.{with_names}
use Rattle.trac_checker.specs.Warned.{Found, names_of}

-- a watch looked at a machine before a step, and told of the machine after it; `A` is where its lists are
pub record Watches
    {A : Type 0} (input : Text) (old new : MachineState) (watch judged : Watch A)
    : Type 0 where
  pub before : Before
  pub looked : Watch A
  pub seen : IsSeen old false before
  pub looks : Looks watch old input looked.warnings.items
  pub places : KeepsPlaces watch looked
  pub undone : new.steps ≡ before.done → Stays looked judged
  pub kept : new.steps ≢ before.done → Kept looked.warnings.items judged.warnings.items
  pub moves : new.steps ≢ before.done → Moves before new looked judged
  pub reads : new.steps ≢ before.done → Reads before new input looked.read judged.read
  pub tells : new.steps ≢ before.done → JudgesStep before new input looked judged
  pub counted : new.steps ≢ before.done →
      counts_of judged.written.entries ≡ counts_behind before.rule looked

-- how far a run that is watched has come: its machine, with all that it printed; what the watch keeps; and what
-- was found
pub record WatchedSoFar (A : Type 0) : Type 0 where
  pub at : Moment
  pub watch : Watch A
  pub found : FoundSoFar

-- a step was watched, and what its warnings say, that of the last first, was added to what was found
pub record Finds {A : Type 0} (input : Text) (old new : WatchedSoFar A) : Type 0 where
  pub judged : Watch A
  pub watches : Watches input old.at.machine new.at.machine old.watch judged
  pub keeps : KeepsRun judged new.watch
  pub finds : new.found ≡ with_all (reverse (map said judged.warnings.items)) old.found

-- one step from `old` to `new` was done and watched
pub record WatchesStep {A : Type 0} (input : Text) (old new : WatchedSoFar A) : Type 0 where
  pub goes : GoesOn old.at new.at
  pub finds : Finds input old new

-- n watched steps lead from `old` to `new`
abbrev pub WatchesSteps : {A : Type 0} → Text → ℕ → (old new : WatchedSoFar A) → Type 0
WatchesSteps input zero old new = new ≡ old
WatchesSteps {A} input (suc n) old new =
    (middle : WatchedSoFar A) × (WatchesSteps input n old middle × WatchesStep input middle new)

-- the step that ended the run with `fate` was watched
pub record WatchesLast {A : Type 0} (input : Text) (fate : Fate) (old new : WatchedSoFar A) : Type 0 where
  pub answers : Answers old.at (Some fate) new.at
  pub finds : Finds input old new

-- a run that has not begun, of a script in which its spelling alone was looked at
abbrev pub not_begun : {A : Type 0} → Text → Moment → Watch A → WatchedSoFar A
not_begun input start watch = record { at = start; watch = watch; found = found_in_script input }

-- the definition's run in `room` cells and with at most `allowance` steps, over a source with the bytes `old`, was
-- watched: `input` is the script whose places are told, `names` are those of the forms that were defined, and `found`
-- is what was found, in the run and its end, in how the script is written, and in the names of its calls
pub record WatchesRun
    (A : Type 0) (input : Text) (room allowance : ℕ) (old new : Stream) (names : List Text) (found : Found)
    (report : Report)
    : Type 0 where
  pub first : Watch A
  pub fresh : IsFresh first
  pub count : ℕ
  pub before : WatchedSoFar A
  pub after : WatchedSoFar A
  pub goes : WatchesSteps input count (not_begun input (moment (fresh_machine room allowance) old []) first) before
  pub ends : WatchesLast input report.fate before after
  pub left : after.at.source ≡ new
  pub steps : report.steps ≡ after.at.machine.steps
  pub peak : report.peak ≡ after.at.machine.peak
  pub reports : Reports report.fate (course (fresh_machine room allowance) old [] new after.at.written) report
  pub names_are : names ≡ names_of after.watch.names.items
  pub found_is :
      found ≡ (with_names input (with_fault (is_fault report.fate) input after.watch after.found)).counts
