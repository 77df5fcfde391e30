-- What is told of a step, of a run's end and of a fault, by the cells that a machine shows.
use Rattle.std.specs.Prelude.{◌≡◌, ℕ, ◌-◌, ◌&&◌, ◌++◌, Bool, true, false, List, [], None, length}
use Rattle.std.specs.Prelude.{nat_le, nat_lt, if◌then◌else◌}
use Rattle.std.specs.List.{flat_map}
use Rattle.trac_language.specs.State.{Memory, size}
use Rattle.trac_language.specs.declared.fate.Fate.{Fate}
use Rattle.trac_space.specs.Texts.{text_of_cells}
use Rattle.trac_space.specs.declared.cell.Cell.{Cell}
use Rattle.trac_functions.specs.Flat.{neutral_of}
use Rattle.trac_core.specs.Machine.{MachineState}
use Rattle.trac_core.specs.View.{neutral_in}
use Rattle.trac_events.specs.Places.{one_more}
use Rattle.trac_events.specs.declared.before.Before.{Before}
use Rattle.trac_events.specs.declared.place.Place.{Place}
use Rattle.trac_views.specs.declared.faults.Parts.{Parts}
use Rattle.trac_views.specs.declared.views.Views.{Views}
use Rattle.trac_views.specs.Largest.{largest_text}
use Rattle.trac_views.specs.Lines.{dropped_text, end_text, output_text, step_text}
use Rattle.trac_views.specs.CallLines.{form_line, is_fault, meta_text, open_calls_text, parts_text}
use Rattle.trac_views.specs.CallLines.{where_text}

-- whether the step after `done` others is shown
abbrev pub is_shown_step : Views → ℕ → Bool
is_shown_step views done =
    nat_le views.from (one_more done) && nat_le (one_more done) views.to

-- the cells are those of a neutral string in memory
abbrev pub IsNeutralIn : Memory → List Cell → Type 0
IsNeutralIn memory neutral = neutral_of neutral ≡ neutral_in memory

-- the cells are those of the machine's neutral string
abbrev pub IsNeutral : MachineState → List Cell → Type 0
IsNeutral m neutral = IsNeutralIn m.memory neutral

-- `new` is `old` with the line of a step, by what was seen before it, its need, and the machine `m` after it,
-- and with the line of what the step dropped
abbrev pub AddsDone : ℕ → Before → ℕ → MachineState → (old new : List ℕ) → Type 0
AddsDone width before need m old new =
    (neutral : List Cell) × ((active : List Cell) × (IsNeutral m neutral
    × ((text_of_cells active ≡ m.memory.active)
    × (new ≡ (old ++ step_text width m.steps before.rule before.size need neutral active)
    ++ dropped_text before.drops))))

-- `new` is `old` with the lines of a step, if it was done, and with the line of what it printed, if it
-- printed anything
abbrev pub AddsPrinted : Bool → ℕ → Before → ℕ → List ℕ → MachineState → (old new : List ℕ)
    → Type 0
AddsPrinted true width before need printed m old new =
    (line : List ℕ) × (AddsDone width before need m old line × (new ≡ line ++ output_text printed))
AddsPrinted false width before need printed m old new = new ≡ old ++ output_text printed

-- `new` is `old` with the lines of a step and of what it printed; the step was done if machine `m` after it
-- has done more steps than the one before
abbrev pub AddsStep : ℕ → Before → ℕ → List ℕ → MachineState → (old new : List ℕ) → Type 0
AddsStep width before need printed m old new =
    AddsPrinted (nat_lt before.done m.steps) width before need printed m old new

-- the cells that each part of a machine's block holds, if its neutral string has `neutral` cells
abbrev pub parts_of : MachineState → ℕ → Parts
parts_of m neutral = record {
  forms = size m.memory - neutral - length m.memory.active;
  neutral = neutral;
  active = length m.memory.active;
  free = m.room - size m.memory;
}

-- the line of the cells of each part
abbrev pub parts_line : Parts → List ℕ
parts_line parts = parts_text parts.forms parts.neutral parts.active parts.free

-- `new` is `old` with the lines on a fault; `string` is where the string that was read last began
abbrev pub AddsFault : ℕ → Place → MachineState → (old new : List ℕ) → Type 0
AddsFault width string m old new =
    (neutral : List Cell) × (IsNeutral m neutral
    × (new ≡ old ++ where_text (one_more m.steps) string ++ open_calls_text width neutral
    ++ largest_text width 5 None m.memory.forms ++ parts_line (parts_of m (length neutral))))

-- the lines of the forms and of the meta character at the end of a run, if forms are shown
abbrev pub forms_text : Views → MachineState → List ℕ
forms_text views m =
    if views.forms then flat_map (form_line views.width) m.memory.forms ++ meta_text m.memory.meta
    else []

-- `new` is `old` with the lines on a fault, for some place in the input, if there was a fault
abbrev pub AddsWhere : Bool → ℕ → MachineState → (old new : List ℕ) → Type 0
AddsWhere true width m old new = (string : Place) × AddsFault width string m old new
AddsWhere false width m old new = new ≡ old

-- `new` is `old` with how the run ended, with the forms, and with the lines on a fault, if that ended it
abbrev pub AddsEnd : Views → Fate → ℕ → MachineState → (old new : List ℕ) → Type 0
AddsEnd views fate peak m old new =
    AddsWhere (is_fault fate) views.width m
    (old ++ end_text fate m.steps peak ++ forms_text views m) new
