-- What C sees of the strings of a machine, in numbers.
use Rattle.std.specs.Prelude.{ℕ, ◌-◌, Bool, true, false, List, [], ◌∷◌, ◌++◌, length}
use Rattle.std.specs.Prelude.{◌==◌, if◌then◌else◌}
use Rattle.trac_language.specs.declared.mode.Mode.{Mode}
use Rattle.trac_language.specs.declared.mode.Mode.TheVariants.{Active, Neutral as NeutralMode}
use Rattle.trac_language.specs.Text.{Text}
use Rattle.trac_language.specs.Store.{cells}
use Rattle.trac_language.specs.State.{OpenCall, size}
use Rattle.trac_space.specs.declared.cell.Cell.{Cell}
use Rattle.trac_space.specs.declared.cell.Cell.TheVariants.{Byte, Call, Comma, Gap, Head}
use Rattle.trac_functions.specs.Flat.{Neutral}
use Rattle.trac_core.specs.declared.rules.ScanningRule.{ScanningRule}
use Rattle.trac_core.specs.declared.rules.ScanningRule.TheVariants.{Idling, Layout}
use Rattle.trac_core.specs.declared.rules.ScanningRule.TheVariants.{Protection, Argument}
use Rattle.trac_core.specs.declared.rules.ScanningRule.TheVariants.{ActiveCall, NeutralCall}
use Rattle.trac_core.specs.declared.rules.ScanningRule.TheVariants.{NumberSign, EndOfCall}
use Rattle.trac_core.specs.declared.rules.ScanningRule.TheVariants.{Character}
use Rattle.trac_core.specs.declared.machine.session.Awaits.{Awaits}
use Rattle.trac_core.specs.declared.machine.session.Awaits.TheVariants.{Nothing}
use Rattle.trac_core.specs.declared.machine.session.Awaits.TheVariants.{Text as TextAwaited}
use Rattle.trac_core.specs.declared.machine.session.Awaits.TheVariants.{Byte as ByteAwaited}
use Rattle.trac_core.specs.Machine.{MachineState}
use Rattle.trac_core.specs.View.{neutral_in}

-- the code of the mark of a call
abbrev pub mark_code : Mode → ℕ
mark_code Active = 256
mark_code NeutralMode = 257

-- the texts of a call before its last, a comma mark behind each
abbrev pub with_commas : List Text → List ℕ
with_commas [] = []
with_commas (text ∷ texts) = text ++ 258 ∷ with_commas texts

-- the codes of calls, which stand innermost first, behind those of what stands before them
abbrev pub calls_codes : List OpenCall → List ℕ → List ℕ
calls_codes [] before = before
calls_codes (call ∷ outer) before =
    calls_codes outer before ++ mark_code call.mode ∷ with_commas call.earlier ++ call.last

-- the codes of a neutral string: the base text, and for each call, the outermost first, its mark
-- and its arguments with comma marks between
abbrev pub codes_of_neutral : Neutral → List ℕ
codes_of_neutral n = calls_codes n.calls n.base

-- the code of a comma mark; outside all calls, where none ever stands, it counts as a character
abbrev pub comma_code : Bool → ℕ
comma_code true = 258
comma_code false = 44

-- the code of a cell, where a call is open or not
abbrev pub cell_code : Bool → Cell → ℕ
cell_code in_call (Byte c) = c
cell_code in_call (Call mode _) = mark_code mode
cell_code in_call Comma = comma_code in_call
cell_code in_call (Gap _) = 0
cell_code in_call (Head _) = 0

-- whether a call is open behind a cell
abbrev pub is_open_after : Cell → Bool → Bool
is_open_after (Byte _) in_call = in_call
is_open_after (Call _ _) in_call = true
is_open_after Comma in_call = in_call
is_open_after (Gap _) in_call = in_call
is_open_after (Head _) in_call = in_call

-- whether there are calls
abbrev pub has_call : List OpenCall → Bool
has_call [] = false
has_call (call ∷ outer) = true

-- the number of a rule
abbrev pub rule_number : ScanningRule → ℕ
rule_number Idling = 0
rule_number Layout = 1
rule_number Protection = 2
rule_number Argument = 3
rule_number ActiveCall = 4
rule_number NeutralCall = 5
rule_number NumberSign = 6
rule_number EndOfCall = 7
rule_number Character = 8

-- the number of what a step reads
abbrev pub awaits_number : Awaits → ℕ
awaits_number Nothing = 0
awaits_number TextAwaited = 1
awaits_number ByteAwaited = 2

-- the cells of a part of the block
abbrev pub part_cells : ℕ → MachineState → ℕ
part_cells which m =
    if which == 0 then cells m.memory.forms
    else if which == 1 then length (codes_of_neutral (neutral_in m.memory))
    else if which == 2 then m.room - size m.memory
    else if which == 3 then length m.memory.active
    else 0
