-- What is shown of a call that a step performs.
use Rattle.std.specs.Prelude.{◌≡◌, ◌++◌, ℕ, Bool, true, false, List, [], Option, Some, None}
use Rattle.std.specs.Prelude.{if◌then◌else◌, nat_lt}
use Rattle.trac_language.specs.Form.{Form}
use Rattle.trac_language.specs.Function.{function_named}
use Rattle.trac_language.specs.State.{Memory}
use Rattle.trac_language.specs.declared.fate.Fate.{Fate}
use Rattle.trac_language.specs.declared.function.Function.{Function}
use Rattle.trac_space.specs.Texts.{text_of_cells}
use Rattle.trac_space.specs.declared.cell.Cell.{Cell}
use Rattle.trac_core.specs.Machine.{MachineState}
use Rattle.trac_core.specs.declared.machine.open_calls.CallMark.{CallMark}
use Rattle.trac_events.specs.Calls.{SeesValue, argument_of, top_frame}
use Rattle.trac_events.specs.Changes.{form_of, pointer_of, touched_by}
use Rattle.trac_events.specs.declared.before.Before.{Before}
use Rattle.trac_events.specs.declared.call.Named.{Named}
use Rattle.trac_language.specs.declared.table.Concerned.{Concerned}
use Rattle.trac_language.specs.declared.table.Concerned.TheVariants.{Nothing, First, Each, All}
use Rattle.trac_views.specs.Faults.{IsNeutralIn}
use Rattle.trac_views.specs.Lines.{dropped_text}
use Rattle.trac_views.specs.CallLines.{called_text, changes_text, deleted_text, form_text, has_strings}
use Rattle.trac_views.specs.declared.views.Views.{Views}
use Rattle.trac_tracer.specs.Odd.{oddity_of}
use Rattle.trac_tracer.specs.declared.shown.Shown.{Shown}

-- the forms that a call of a function, or of none, can make, change or delete
abbrev pub touched_of : Option Function → Concerned
touched_of None = Nothing
touched_of (Some function) = touched_by function

-- the text of a form, null if there is none
abbrev pub found_text : ℕ → Option Form → List ℕ
found_text width None = []
found_text width (Some form) = form_text width form

-- the text of the form that a call names, if a call that can touch such forms makes or changes it; else null
abbrev pub made_text : ℕ → Concerned → Option Form → List ℕ
made_text width Nothing form = []
made_text width First form = found_text width form
made_text width Each form = []
made_text width All form = []

-- what is kept of a call before it is performed: its arguments, what they name, and the line of the forms
-- that it deletes
pub record CallKept : Type 0 where
  pub arguments : List Cell
  pub named : Named
  pub deleted : List ℕ

-- what is kept so in what is shown of a run
abbrev pub kept_in : {A : Type 0} → Shown A → CallKept
kept_in shown = record {
  arguments = shown.arguments.items;
  named = shown.named;
  deleted = shown.deleted.items;
}

-- what a step leaves: how many calls are open, what it printed, and the machine
pub record StepEnd : Type 0 where
  pub depth : ℕ
  pub printed : List ℕ
  pub machine : MachineState

-- a call's arguments are kept, with what they name and the line of the forms that it deletes
pub record IsKept (memory : Memory) (width : ℕ) (mark : CallMark) (kept : CallKept) : Type 0 where
  pub neutral : List Cell
  pub is_neutral : IsNeutralIn memory neutral
  pub arguments_are : kept.arguments ≡ top_frame neutral mark.place
  pub function :
      kept.named.function ≡ function_named (text_of_cells (argument_of kept.arguments 0))
  pub pointer : kept.named.pointer ≡ pointer_of (argument_of kept.arguments 1) memory.forms
  pub deleted_is :
      kept.deleted
      ≡ deleted_text width (touched_of kept.named.function) memory.forms kept.arguments

-- the lines of a call, by what was kept of it before, its value, and what its step left
abbrev pub call_text : Views → CallMark → CallKept → (value : List Cell) → StepEnd → List ℕ
call_text views mark kept value end =
    let m = end.machine in
    let name = argument_of kept.arguments 1 in
    let form = made_text views.width (touched_of kept.named.function) (form_of name m.memory.forms) in
    if views.calls then
    called_text m.steps mark.mode end.depth kept.arguments value end.printed form kept.deleted
    (oddity_of kept.named.function kept.named.pointer kept.arguments value
    (pointer_of name m.memory.forms)) views.width
    else (if views.forms then changes_text m.steps form kept.deleted else [])

-- the lines of the call that was seen before a step, null if none was seen
abbrev pub seen_text : Views → Option CallMark → CallKept → (value : List Cell) → StepEnd → List ℕ
seen_text views None kept value end = []
seen_text views (Some mark) kept value end = call_text views mark kept value end

-- the lines of a step in a view that doesn't show steps themselves: how many characters the step dropped,
-- and the call that it performed; null if the step wasn't done
abbrev pub step_lines : Bool → Views → Before → CallKept → (value : List Cell) → StepEnd → List ℕ
step_lines true views before kept value end =
    (if has_strings views then dropped_text before.drops else [])
    ++ seen_text views before.call kept value end
step_lines false views before kept value end = []

-- `value` is that of the call that was seen; it is null if the run is over
abbrev pub IsValueAfter : Option Fate → Before → MachineState → List Cell → Type 0
IsValueAfter None before m value = SeesValue m before.call before.active value
IsValueAfter (Some fate) before m value = value ≡ []

-- `new` is `old` with the lines of a step in the views of calls and of forms, by what was kept of its call
abbrev pub AddsCall : Views → Before → Option Fate → CallKept → StepEnd → (old new : List ℕ) → Type 0
AddsCall views before fate kept end old new =
    (value : List Cell) × (IsValueAfter fate before end.machine value
    × (new ≡ old ++ step_lines (nat_lt before.done end.machine.steps) views before kept value end))
