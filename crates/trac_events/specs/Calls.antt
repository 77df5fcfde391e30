-- Open calls and their arguments.
use Rattle.std.specs.Prelude.{◌≡◌, ℕ, zero, suc, ◌+◌, ◌-◌, ◌^◌, ◌&&◌, ◌||◌, Bool, true, false}
use Rattle.std.specs.Prelude.{Option, None, Some, List, [], length, take, drop}
use Rattle.std.specs.Prelude.{min, nat_lt, if◌then◌else◌}
use Rattle.std.specs.List.{position_or_len}
use Rattle.trac_language.specs.Rule.{rule}
use Rattle.trac_language.specs.State.{State, size}
use Rattle.trac_language.specs.Step.{Next, step}
use Rattle.trac_space.specs.declared.cell.Cell.{Cell}
use Rattle.trac_space.specs.Cells.{is_comma}
use Rattle.trac_space.specs.Texts.{text_of_cells}
use Rattle.trac_functions.specs.Flat.{neutral_of}
use Rattle.trac_core.specs.Machine.{MachineState}
use Rattle.trac_core.specs.OpenCalls.{mark_of}
use Rattle.trac_core.specs.View.{dropped, neutral_in, row_of}
use Rattle.trac_core.specs.Session.{awaited, next_function}
use Rattle.trac_core.specs.declared.machine.open_calls.CallMark.{CallMark}
use Rattle.trac_core.specs.declared.machine.session.Awaits.{Awaits}
use Rattle.trac_core.specs.declared.machine.session.Awaits.TheVariants.{Nothing, Text, Byte}
use Rattle.trac_core.specs.declared.rules.ScanningRule.{ScanningRule}
use Rattle.trac_core.specs.declared.rules.ScanningRule.TheVariants as row
use Rattle.trac_events.specs.declared.before.Before.{Before}

-- the cells behind the mark at a place
abbrev pub top_frame : List Cell → ℕ → List Cell
top_frame neutral mark = drop (mark + 1) neutral

-- the cells behind the first k comma marks; none if there are fewer
abbrev pub from_argument : List Cell → ℕ → List Cell
from_argument cells zero = cells
from_argument cells (suc k) = from_argument (drop (position_or_len is_comma cells + 1) cells) k

-- the cells before the first comma mark
abbrev pub first_argument : List Cell → List Cell
first_argument cells = take (position_or_len is_comma cells) cells

-- argument k, from 0, of cells that comma marks part
abbrev pub argument_of : List Cell → ℕ → List Cell
argument_of cells k = first_argument (from_argument cells k)

-- whether a step reads
abbrev pub reads : Awaits → Bool
reads Nothing = false
reads Text = true
reads Byte = true

-- whether a rule ends a call
abbrev pub ends_call : ScanningRule → Bool
ends_call row.EndOfCall = true
ends_call _ = false

-- whether a rule takes over a protected text, or drops what stands behind a left parenthesis
abbrev pub protects : ScanningRule → Bool
protects row.Protection = true
protects _ = false

-- the mark of the innermost call of a machine; none if it isn't looked for
abbrev pub seen_call : Bool → MachineState → Option CallMark
seen_call true m = mark_of 0 (neutral_in m.memory)
seen_call false m = None

-- whether the call that the next step performs is looked for: if `asked` says so, or the call reads
abbrev pub looks_at_call : MachineState → Bool → Bool
looks_at_call m asked =
    ends_call (row_of (rule m.memory.active)) && (asked || reads (awaited (next_function m)))

-- how many cells a call put before an active string that had `before` cells, of which the call's right
-- parenthesis was taken away
abbrev pub added : ℕ → List Cell → ℕ
added before active = min (length active + 1 - before) (length active)

-- the value of a call whose mark stood at `mark` in the neutral string, and before which the active string
-- had `before` cells: what was added to the active string, or else what stands in the place of the mark
abbrev pub value_behind : (mark before : ℕ) → (neutral active : List Cell) → List Cell
value_behind mark before neutral active =
    if nat_lt 0 (added before active) then take (added before active) active else drop mark neutral

-- `before` is what is seen of machine `m` before a step; `asked` says that its call is looked for
abbrev pub IsSeen : MachineState → Bool → Before → Type 0
IsSeen m asked before = (before.done ≡ m.steps)
    × (before.rule ≡ row_of (rule m.memory.active))
    × (before.size ≡ size m.memory)
    × (before.awaits ≡ awaited (next_function m))
    × (before.active ≡ length m.memory.active)
    × (before.meta ≡ m.memory.meta)
    × (before.drops ≡ dropped (rule m.memory.active) (length m.memory.active))
    × (before.call ≡ seen_call (looks_at_call m asked) m)

-- `value` is that of the call that was seen, by the cells of a machine's strings; null if none was seen
abbrev pub SeesValue : MachineState → Option CallMark → ℕ → List Cell → Type 0
SeesValue m None before value = value ≡ []
SeesValue m (Some call) before value = (neutral : List Cell) × ((active : List Cell)
    × ((neutral_of neutral ≡ neutral_in m.memory) × ((text_of_cells active ≡ m.memory.active)
    × (value ≡ value_behind call.place before neutral active))))

-- how many calls are open after a step by a rule, if `depth` were open before it
abbrev pub depth_after : ScanningRule → ℕ → ℕ
depth_after row.Idling depth = 0
depth_after row.ActiveCall depth = depth + 1
depth_after row.NeutralCall depth = depth + 1
depth_after row.EndOfCall depth = depth - 1
depth_after _ depth = depth

-- how many calls are open in machine `m` after a step before which `depth` were open, as far as a number
-- of 64 bits tells; `depth`, if the step wasn't done
abbrev pub depth_in : Before → MachineState → ℕ → ℕ
depth_in before m depth =
    if nat_lt before.done m.steps
    then min (depth_after before.rule depth) (2 ^ 64 - 1)
    else depth

-- a step leaves as many calls open as its rule tells
abbrev pub DepthFollows : Type 0
DepthFollows =
    (before after : State) →
    step before ≡ Next after →
    length after.memory.calls ≡
    depth_after (row_of (rule before.memory.active)) (length before.memory.calls)
