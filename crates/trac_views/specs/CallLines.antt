-- The lines of calls, of forms and of faults.
use Rattle.std.specs.Prelude.{ℕ, zero, suc, ◌-◌, ◌==◌, ◌&&◌, ◌||◌, Bool, true, false, not, List, []}
use Rattle.std.specs.Prelude.{◌∷◌, ◌++◌, Option, Some, None, length, take, codes, count_by, decimal}
use Rattle.std.specs.Prelude.{if◌then◌else◌, is_none, nat_le}
use Rattle.std.specs.List.{flat_map, position_or_len}
use Rattle.trac_language.specs.Form.{Form}
use Rattle.trac_language.specs.Meaning.{show_form}
use Rattle.trac_language.specs.Text.{Text}
use Rattle.trac_language.specs.declared.fate.Fate.{Fate}
use Rattle.trac_language.specs.declared.fate.Fate.TheVariants.{Halted, InputEnded}
use Rattle.trac_language.specs.declared.mode.Mode.{Mode}
use Rattle.trac_space.specs.Cells.{is_call, is_comma}
use Rattle.trac_space.specs.declared.cell.Cell.{Cell}
use Rattle.trac_space.specs.declared.cell.Cell.TheVariants.{Byte, Call, Comma, Gap, Head}
use Rattle.trac_space.specs.Texts.{text_of_cells}
use Rattle.trac_events.specs.Calls.{argument_of}
use Rattle.trac_events.specs.Changes.{form_of, is_same}
use Rattle.trac_language.specs.declared.table.Concerned.{Concerned}
use Rattle.trac_language.specs.declared.table.Concerned.TheVariants.{Nothing, First, Each, All}
use Rattle.trac_events.specs.declared.place.Place.{Place}
use Rattle.trac_views.specs.declared.calls.Oddity.{Oddity}
use Rattle.trac_views.specs.declared.calls.Oddity.TheVariants.{NoFunction, NoForm, Default}
use Rattle.trac_views.specs.declared.events.Event.{Event}
use Rattle.trac_views.specs.declared.events.Event.TheVariants.{Done, Dropped, Printed, Called}
use Rattle.trac_views.specs.declared.views.Views.{Views}
use Rattle.trac_views.specs.Lines.{byte_text, column_text, dropped_text, output_text, step_text}
use Rattle.trac_views.specs.Shown.{cut_text, opening_text, raw_cell}

-- a form: its name and, behind a colon, its body as `pf` displays it, both cut to a width
abbrev pub form_text : ℕ → Form → List ℕ
form_text width form = cut_text width form.name ++ codes ": " ++ cut_text width (show_form form)

-- the line of a form
abbrev pub form_line : ℕ → Form → List ℕ
form_line width form = codes "form " ++ form_text width form ++ codes "\n"

-- two blanks, and two more for each of `depth` calls
abbrev pub blanks_text : ℕ → List ℕ
blanks_text zero = codes "  "
blanks_text (suc depth) = codes "  " ++ blanks_text depth

-- what indents a call that has `depth` calls around it: two blanks, and two more for each of these; with more
-- than 20 of them the blanks for 20, and the number of calls
abbrev pub indent_text : ℕ → List ℕ
indent_text depth =
    if nat_le depth 20 then blanks_text depth
    else (blanks_text 20 ++ decimal depth ++ codes " ")

-- what is odd about a call, in brackets
abbrev pub oddity_text : Option Oddity → List ℕ
oddity_text None = []
oddity_text (Some NoFunction) = codes " [no function]"
oddity_text (Some NoForm) = codes " [no form]"
oddity_text (Some Default) = codes " [default]"

-- a text, or null if what is to stand behind it is empty
abbrev pub unless_empty : List ℕ → Bool → List ℕ
unless_empty text true = []
unless_empty text false = text

-- a call's value, what it printed, and the form that it made or changed; each left out if it is empty
abbrev pub results_text : List Cell → List ℕ → List ℕ → ℕ → List ℕ
results_text value printed form width =
    unless_empty (codes " = ") (length value == 0) ++ cut_text width (flat_map raw_cell value)
    ++ unless_empty (codes " prints ") (length printed == 0) ++ cut_text width printed
    ++ unless_empty (codes " form ") (length form == 0) ++ form

-- the line of a call: the number of its step, the call, indented by the calls around it, its results, the
-- forms that it deleted, and what is odd about it
abbrev pub called_text : ℕ → Mode → ℕ → List Cell → List Cell → List ℕ → List ℕ → List ℕ
    → Option Oddity → ℕ → List ℕ
called_text number mode depth arguments value printed form deleted oddity width =
    column_text number ++ indent_text depth ++ opening_text mode
    ++ cut_text width (flat_map raw_cell arguments) ++ codes ")"
    ++ results_text value printed form width ++ deleted ++ oddity_text oddity ++ codes "\n"

-- whether one of the arguments behind the first, each of which a comma mark begins, is `name`
abbrev pub is_argument : List Cell → Text → Bool
is_argument [] name = false
is_argument (cell ∷ cells) name =
    (is_comma cell && is_same (text_of_cells (argument_of cells 0)) name) || is_argument cells name

-- the line of the form that a call made or changed, or of the forms that it deleted
abbrev pub change_line : ℕ → List ℕ → List ℕ → List ℕ
change_line number form deleted =
    column_text number ++ codes " " ++ unless_empty (codes " form ") (length form == 0)
    ++ form ++ deleted ++ codes "\n"

-- the line of what a call did to forms, null if it made, changed and deleted none
abbrev pub changes_text : ℕ → List ℕ → List ℕ → List ℕ
changes_text number form deleted =
    if (length form == 0) && (length deleted == 0) then [] else change_line number form deleted

-- whether steps are shown: if no other view is asked for
abbrev pub has_steps : Views → Bool
has_steps views = not views.calls && not views.forms

-- whether what becomes of the strings is shown: in the view of steps and in that of calls
abbrev pub has_strings : Views → Bool
has_strings views = has_steps views || views.calls

-- what the views show of an event
abbrev pub event_text : Views → Event → List ℕ
event_text views (Done step neutral active) =
    if has_steps views
    then step_text views.width step.number step.rule step.size step.need neutral.now active.now
    else []
event_text views (Dropped count) = if has_strings views then dropped_text count else []
event_text views (Printed bytes) = if has_steps views then output_text bytes.now else []
event_text views (Called call) =
    if views.calls then called_text call.number call.mode call.depth call.arguments.now
    call.value.now call.printed.now call.form.now call.deleted.now call.oddity views.width
    else (if views.forms then changes_text call.number call.form.now call.deleted.now else [])

-- the words that a form of the name `name` is deleted
abbrev pub deletion : ℕ → Text → List ℕ
deletion width name = codes " deletes " ++ cut_text width name

-- the words that a form is deleted
abbrev pub form_deleted : ℕ → Form → List ℕ
form_deleted width form = deletion width form.name

-- the words that the form which the first argument names is deleted; null if it names none, or if a later
-- argument is the same
abbrev pub first_deleted : ℕ → List Form → List Cell → List ℕ
first_deleted width forms arguments =
    let name = argument_of arguments 0 in
    if is_none (form_of name forms) || is_argument arguments (text_of_cells name) then []
    else deletion width (text_of_cells name)

-- the same for the argument that begins behind a cell, null if none does
abbrev pub behind_deleted : ℕ → List Form → Cell → List Cell → List ℕ
behind_deleted width forms cell cells = if is_comma cell then first_deleted width forms cells else []

-- the words that the forms which arguments behind the function's name name are deleted, each once
abbrev pub named_deleted : ℕ → List Form → List Cell → List ℕ
named_deleted width forms [] = []
named_deleted width forms (cell ∷ cells) =
    behind_deleted width forms cell cells ++ named_deleted width forms cells

-- the words on the forms that a call with `arguments` deletes, of the forms that it can touch
abbrev pub deleted_text : ℕ → Concerned → List Form → List Cell → List ℕ
deleted_text width Nothing forms arguments = []
deleted_text width First forms arguments = []
deleted_text width Each forms arguments = named_deleted width forms arguments
deleted_text width All forms arguments = flat_map (form_deleted width) forms

-- the cells before the first call mark
abbrev pub until_call : List Cell → List Cell
until_call cells = take (position_or_len is_call cells) cells

-- the line of an open call
abbrev pub open_line : ℕ → Mode → List Cell → List ℕ
open_line width mode arguments =
    codes "open call: " ++ opening_text mode ++ cut_text width (flat_map raw_cell arguments)
    ++ codes "\n"

-- the line of the open call whose mark a cell is; null if it is no mark, or if `skip` calls are still left out
abbrev pub open_text : ℕ → ℕ → Cell → List Cell → List ℕ
open_text skip width (Byte _) cells = []
open_text skip width (Call mode _) cells =
    if skip == 0 then open_line width mode (until_call cells) else []
open_text skip width Comma cells = []
open_text skip width (Gap _) cells = []
open_text skip width (Head _) cells = []

-- how many open calls are still left out behind a cell
abbrev pub skip_behind : ℕ → Cell → ℕ
skip_behind skip cell = if is_call cell then skip - 1 else skip

-- the lines of the open calls, but for the outermost `skip` of them
abbrev pub opened_text : ℕ → ℕ → List Cell → List ℕ
opened_text skip width [] = []
opened_text skip width (cell ∷ cells) =
    open_text skip width cell cells ++ opened_text (skip_behind skip cell) width cells

-- the line on the `skip` open calls around those that have lines, null if there are none
abbrev pub around_text : ℕ → List ℕ
around_text skip =
    if skip == 0 then [] else (codes "open calls around these: " ++ decimal skip ++ codes "\n")

-- the lines of the five innermost open calls, the innermost one last
abbrev pub open_calls_text : ℕ → List Cell → List ℕ
open_calls_text width neutral =
    let skip = count_by is_call neutral - 5 in
    around_text skip ++ opened_text skip width neutral

-- the words for a place in the input
abbrev pub place_text : Place → List ℕ
place_text place =
    codes "line " ++ decimal place.line ++ codes ", column " ++ decimal place.column

-- the line on the step that was not done, and on where the string that was read last began
abbrev pub where_text : ℕ → Place → List ℕ
where_text step place =
    codes "at step " ++ decimal step ++ codes ", in the string that begins at "
    ++ place_text place ++ codes "\n"

-- the line of the cells of each part of the block
abbrev pub parts_text : ℕ → ℕ → ℕ → ℕ → List ℕ
parts_text forms neutral active free =
    codes "cells: forms " ++ decimal forms ++ codes ", neutral string " ++ decimal neutral
    ++ codes ", active string " ++ decimal active ++ codes ", free " ++ decimal free ++ codes "\n"

-- the line of the meta character
abbrev pub meta_text : ℕ → List ℕ
meta_text meta = codes "meta character: " ++ byte_text meta ++ codes "\n"

-- whether a run that ended with a fate ended by a fault
abbrev pub is_fault : Fate → Bool
is_fault Halted = false
is_fault InputEnded = false
is_fault _ = true
