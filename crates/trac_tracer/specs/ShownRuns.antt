-- What is shown of a run, step by step.
use Rattle.std.specs.Prelude.{◌≡◌, ℕ, zero, suc, ◌-◌, ◌^◌, ◌&&◌, ◌++◌, true, false, not, List, []}
use Rattle.std.specs.Prelude.{IfSome, None, Option, Some, max, slice_index_or}
use Rattle.trac_language.specs.Text.{Text}
use Rattle.trac_language.specs.Step.{need}
use Rattle.trac_language.specs.declared.fate.Fate.{Fate}
use Rattle.trac_devices.specs.Devices.{Stream}
use Rattle.trac_core.specs.Machine.{MachineState, Moment, moment, state_of, GoesOn, Answers, Reports}
use Rattle.trac_core.specs.Machine.{counts_as_step, course, fresh_machine}
use Rattle.trac_events.specs.Calls.{IsSeen, depth_in}
use Rattle.trac_events.specs.declared.before.Before.{Before}
use Rattle.trac_views.specs.Faults.{AddsEnd, AddsStep, is_shown_step}
use Rattle.trac_views.specs.Lines.{folded_text, head_text}
use Rattle.trac_views.specs.CallLines.{has_steps}
use Rattle.trac_views.specs.declared.views.Views.{Views}
use Rattle.trac_tracer.specs.Last.{LastNumbers, with_step}
use Rattle.trac_events.specs.Places.{first_place}
use Rattle.trac_tracer.specs.ShownCalls.{CallKept, IsKept, StepEnd, AddsCall}
use Rattle.trac_tracer.specs.declared.shown.Progress.{Progress}

-- where a run that is shown stands before its first step: it has read nothing, no call is open, and no step needed
-- a cell
abbrev pub first_progress : Progress
first_progress = record { reading = record { next = first_place; string = first_place }; depth = 0; peak = 0 }

-- the views, for all steps
abbrev pub all_steps : Views → Views
all_steps views = record views { from = 1; to = 2 ^ 64 - 1 }

-- the views, for the steps from step `first` on
abbrev pub views_from : ℕ → Views → Views
views_from first views = record views { from = max views.from first; last = 0 }

-- a step from machine `old` to `new`: how many calls were open before it and after it, what it answered,
-- the cells that it needed, and what it printed
pub record StepDone : Type 0 where
  pub old : MachineState
  pub depth_before : ℕ
  pub answer : Option Fate
  pub needed : ℕ
  pub printed : Text
  pub new : MachineState
  pub depth : ℕ

-- what a step left
abbrev pub end_of : StepDone → StepEnd
end_of done = record { depth = done.depth; printed = done.printed; machine = done.new }

-- the lines of a step: none if it isn't shown; if steps themselves are shown, all that is told of the
-- step; else the call that the step performed, by what was kept of that call before
pub record AreLinesOf (views : Views) (done : StepDone) (lines : List ℕ) : Type 0 where
  pub before : Before
  pub kept : CallKept
  pub seen : IsSeen done.old (is_shown_step views done.old.steps && not (has_steps views)) before
  pub depth_is : done.depth ≡ depth_in before done.new done.depth_before
  pub hidden : is_shown_step views done.old.steps ≡ false → lines ≡ []
  pub steps :
      is_shown_step views done.old.steps ≡ true → has_steps views ≡ true →
      AddsStep views.width before done.needed done.printed done.new [] lines
  pub keeps :
      is_shown_step views done.old.steps ≡ true → has_steps views ≡ false →
      IfSome before.call (λ mark. IsKept done.old.memory views.width mark kept)
  pub calls :
      is_shown_step views done.old.steps ≡ true → has_steps views ≡ false →
      AddsCall views before done.answer kept (end_of done) [] lines

-- how far a run that is shown has come: its machine, with all that it printed; how many calls are open;
-- the last steps of which something was shown; and what was written
pub record ShownSoFar : Type 0 where
  pub at : Moment
  pub depth : ℕ
  pub last : LastNumbers
  pub text : List ℕ

-- a run that begins at `start`, of which no step is shown yet
abbrev pub none_shown : Views → Moment → ShownSoFar
none_shown views start = record {
  at = start;
  depth = 0;
  last = record { numbers = []; most = views.last };
  text = [];
}

-- a run that is shown, with the lines of one more step: `lines` are the step's own, `all` is what is written
abbrev pub with_lines : Views → (lines all : List ℕ) → Moment → (depth : ℕ) → ShownSoFar → ShownSoFar
with_lines views lines all at depth old = record {
  at = at;
  depth = depth;
  last = with_step at.machine.steps lines old.last;
  text = old.text ++ folded_text views.columns 0 all;
}

-- the step from `old` to `new`, as what is shown of it is told
abbrev pub step_between : ShownSoFar → Option Fate → (needed : ℕ) → (printed : Text) → ShownSoFar → StepDone
step_between old answer needed printed new = record {
  old = old.at.machine;
  depth_before = old.depth;
  answer = answer;
  needed = needed;
  printed = printed;
  new = new.at.machine;
  depth = new.depth;
}

-- one step from `old` to `new` was done, and its lines were written
pub record ShowsStep (views : Views) (old new : ShownSoFar) : Type 0 where
  pub printed : Text
  pub lines : List ℕ
  pub goes : GoesOn old.at new.at
  pub prints : new.at.written ≡ old.at.written ++ printed
  pub tells : AreLinesOf views (step_between old None (need (state_of old.at)) printed new) lines
  pub new_is : new ≡ with_lines views lines lines new.at new.depth old

-- n shown steps lead from `old` to `new`
abbrev pub ShowsSteps : Views → ℕ → (old new : ShownSoFar) → Type 0
ShowsSteps views zero old new = new ≡ old
ShowsSteps views (suc n) old new =
    (middle : ShownSoFar) × (ShowsSteps views n old middle × ShowsStep views middle new)

-- the step that ended the run with `fate`, and the lines on the end, were written
pub record ShowsLast (views : Views) (fate : Fate) (old new : ShownSoFar) : Type 0 where
  pub printed : Text
  pub needed : ℕ
  pub lines : List ℕ
  pub all : List ℕ
  pub answers : Answers old.at (Some fate) new.at
  pub prints : new.at.written ≡ old.at.written ++ printed
  pub needs : counts_as_step (Some fate) ≡ true → needed ≡ need (state_of old.at)
  pub tells : AreLinesOf views (step_between old (Some fate) needed printed new) lines
  pub ends : AddsEnd views fate new.at.machine.peak new.at.machine lines all
  pub new_is : new ≡ with_lines views lines all new.at new.depth old

-- `text` shows the definition's run in `room` cells and with at most `allowance` steps, over a source with
-- the bytes `old`, up to its end with `fate`; `first` is the first of the last steps that are shown
pub record ShowsRun (views : Views) (room allowance : ℕ) (old new : Stream) (fate : Fate)
    (first : ℕ) (text : List ℕ) : Type 0 where
  pub count : ℕ
  pub before : ShownSoFar
  pub after : ShownSoFar
  pub goes : ShowsSteps views count (none_shown views (moment (fresh_machine room allowance) old [])) before
  pub ends : ShowsLast views fate before after
  pub left : after.at.source ≡ new
  pub reports :
      Reports fate (course (fresh_machine room allowance) old [] new after.at.written) (record {
        fate = fate;
        steps = after.at.machine.steps;
        peak = after.at.machine.peak;
      })
  pub first_is : first ≡ slice_index_or after.last.numbers 0 1
  pub text_is :
      text ≡ folded_text views.columns 0 (head_text views.calls views.forms) ++ after.text
