-- The calls that are open, where their marks stand in the neutral string, and which of them the next
-- step performs.
use Rattle.std.specs.Prelude.{ℕ, zero, suc, ◌+◌, List, [], ◌∷◌, Option, None, Some, length, slice_get, sum_by}
use Rattle.std.specs.Prelude.{Bool, false, ◌&&◌, ◌==◌, if◌then◌else◌, is_none, nat_lt}
use Rattle.trac_language.specs.Rule.{Rule, EndCall, rule}
use Rattle.trac_language.specs.Text.{Text}
use Rattle.trac_language.specs.State.{Memory, OpenCall as Call, arguments, call_cells}
use Rattle.trac_language.specs.Step.{function_of}
use Rattle.trac_functions.specs.Flat.{Neutral}
use Rattle.trac_core.specs.declared.machine.open_calls.CallMark.{CallMark}
use Rattle.trac_core.specs.Machine.{MachineState}

-- the cells that stand before the mark of a call that is open within the calls `outer`, where the base text
-- has `base` cells
abbrev pub cells_before : ℕ → List Call → ℕ
cells_before base outer = base + sum_by call_cells outer

-- the mark of an open call by its number, where the innermost call has the number 0 and the base text has
-- `base` cells
abbrev pub mark_within : ℕ → ℕ → List Call → Option CallMark
mark_within number base [] = None
mark_within zero base (call ∷ outer) = Some (record {
  mode = call.mode;
  place = cells_before base outer;
})
mark_within (suc number) base (call ∷ outer) = mark_within number base outer

-- the mark of an open call of a neutral string by its number
abbrev pub mark_of : ℕ → Neutral → Option CallMark
mark_of number n = mark_within number (length n.base) n.calls

-- the places of the marks of some open calls, the innermost first, where the base text has `base` cells
abbrev pub places_within : ℕ → List Call → List ℕ
places_within base [] = []
places_within base (call ∷ outer) = cells_before base outer ∷ places_within base outer

-- the places of the marks of the calls that are open in a neutral string, the innermost first
abbrev pub call_places : Neutral → List ℕ
call_places n = places_within (length n.base) n.calls

-- the first of these that comes after a given one, if that one is among them; without a given one the first
abbrev pub next_after : Option ℕ → List ℕ → Option ℕ
next_after None places = slice_get places 0
next_after (Some place) [] = None
next_after (Some place) (first ∷ others) =
    if place == first then slice_get others 0 else next_after (Some place) others

-- the place of the mark of the call around the one with this mark, and of the innermost call without a mark
abbrev pub mark_around : Option ℕ → Neutral → Option ℕ
mark_around mark n = next_after mark (call_places n)

-- the call among these, innermost first, that a step by the rule performs
abbrev pub call_performed_by : Rule → List Call → Option Call
call_performed_by (EndCall rest) (call ∷ outer) = Some call
call_performed_by _ calls = None

-- the call that a step performs over this memory
abbrev pub performed_call : Memory → Option Call
performed_call memory = call_performed_by (rule memory.active) memory.calls

-- whether a call is performed, and its name is no function
abbrev pub is_unknown : Option Call → Bool
is_unknown None = false
is_unknown (Some call) = is_none (function_of call)

-- whether a step over this memory performs a call whose name is no function
abbrev pub calls_unknown : Memory → Bool
calls_unknown memory = is_unknown (performed_call memory)

-- whether a turn that stops before calls of no function, if `stops` says so, stops before a step over
-- this memory
abbrev pub stops_at : Bool → Memory → Bool
stops_at stops memory = stops && calls_unknown memory

-- whether turns of a machine stop before its next step, so that the host may answer the call that it performs
abbrev pub asks_host : MachineState → Bool
asks_host m = stops_at m.stops m.memory

-- the arguments, the name first, of the call among these, innermost first, that a step by the rule performs;
-- none where it performs no call
abbrev pub texts_performed_by : Rule → List Call → List Text
texts_performed_by (EndCall rest) (call ∷ outer) = arguments call
texts_performed_by _ calls = []

-- the arguments, the name first, of the call that a step performs over this memory
abbrev pub performed_texts : Memory → List Text
performed_texts memory = texts_performed_by (rule memory.active) memory.calls

-- the arguments, the name first, of the call that the next step performs, if there is a next step
abbrev pub next_texts : MachineState → List Text
next_texts m =
    if is_none m.fate && nat_lt m.steps m.allowance then performed_texts m.memory else []
