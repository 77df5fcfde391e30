-- What is suspicious in a call that is about to be performed.
use Rattle.std.specs.Prelude.{◌≡◌, ℕ, ◌+◌, ◌-◌, ◌^◌, ◌==◌, ◌&&◌, ◌||◌, Bool, true, false, not, min}
use Rattle.std.specs.Prelude.{codes, decimal, nat_le, nat_lt}
use Rattle.std.specs.Prelude.{List, [], ◌∷◌, ◌++◌, length, map, slice_get, take, Option, None, Some}
use Rattle.std.specs.Prelude.{option_map, is_none, is_some, if◌then◌else◌}
use Rattle.std.specs.Bool.{nat_eq}
use Rattle.std.specs.Char.{is_ascii_alphabetic}
use Rattle.std.specs.List.{list_any}
use Rattle.std.specs.Option.{option_eq}
use Rattle.trac_language.specs.Form.{Form}
use Rattle.trac_language.specs.Text.{Text}
use Rattle.trac_language.specs.Function.{function_named}
use Rattle.trac_language.specs.declared.function.Function.{Function}
use Rattle.trac_language.specs.declared.function.Function.TheVariants.{DefineString, SegmentString, CallForm}
use Rattle.trac_language.specs.declared.function.Function.TheVariants.{InitialPart}
use Rattle.trac_language.specs.declared.function.Function.TheVariants.{Equal, PrintString, ChangeMeta}
use Rattle.trac_language.specs.Table.{traits}
use Rattle.trac_language.specs.declared.table.Given.{Given}
use Rattle.trac_language.specs.declared.table.Given.TheVariants.{Nothing}
use Rattle.trac_language.specs.declared.table.Traits.{Traits}
use Rattle.trac_language.specs.declared.item.Item.{Item}
use Rattle.trac_space.specs.declared.cell.Cell.{Cell}
use Rattle.trac_space.specs.Cells.{is_comma}
use Rattle.trac_space.specs.Texts.{text_of_cells}
use Rattle.trac_events.specs.Calls.{argument_of}
use Rattle.trac_events.specs.Changes.{form_of, is_same, takes_part}
use Rattle.trac_warnings.specs.Blanks.{trimmed}
use Rattle.trac_warnings.specs.Gaps.{highest_gap, is_absent, stands_in, stands_in_name, stands_in_words}
use Rattle.trac_warnings.specs.Letters.{differ_by_letters, stands_in_letters}
use Rattle.trac_warnings.specs.Operands.{adds, are_thousands, is_number, operand_among, suspicion_of_operand}
use Rattle.trac_warnings.specs.Operands.{takes_numbers}
use Rattle.trac_warnings.specs.Printed.{begins_with_line_end, behind_call, closes_at_end, has_two_at_end}
use Rattle.trac_warnings.specs.Suspicions.{is_called_alone, is_written, suspicion_of_name}
use Rattle.trac_warnings.specs.Watched.{Said, said}
use Rattle.trac_warnings.specs.declared.origin.Origin.{Origin}
use Rattle.trac_warnings.specs.declared.performed.CalledFunction.{CalledFunction}
use Rattle.trac_warnings.specs.declared.performed.Ending.{Ending}
use Rattle.trac_warnings.specs.declared.warning.Suspicion.{Suspicion}
use Rattle.trac_warnings.specs.declared.warning.Suspicion.TheVariants.{NoFunction, FormAsFunction, NoForm}
use Rattle.trac_warnings.specs.declared.warning.Suspicion.TheVariants.{BlankInName, BlankInSide, LetterInSide}
use Rattle.trac_warnings.specs.declared.warning.Suspicion.TheVariants.{AllTaken}
use Rattle.trac_warnings.specs.declared.warning.Suspicion.TheVariants.{Ignored, NothingLeft, NothingFound}
use Rattle.trac_warnings.specs.declared.warning.Suspicion.TheVariants.{HaltInside, ActsAlways, CommaInNumber}
use Rattle.trac_warnings.specs.declared.warning.Suspicion.TheVariants.{ReadsAlways, GapInName, NotInForm, NoGap}
use Rattle.trac_warnings.specs.declared.warning.Suspicion.TheVariants.{InOtherLetters, GapInWord, FewArguments}
use Rattle.trac_warnings.specs.declared.warning.Suspicion.TheVariants.{CallPrinted, LineEndAsMeta}
use Rattle.trac_warnings.specs.declared.warning.Warning.{Warning}

-- the warning of a text at an origin
abbrev pub of_text : Suspicion → Origin → List ℕ → Said
of_text suspicion origin text =
    record { origin = origin; suspicion = suspicion; count = 0; text = text }

-- the warning of a text's cells at an origin, if it applies
abbrev pub where_so : Bool → Suspicion → Origin → List Cell → List Said
where_so true suspicion origin cells = of_text suspicion origin (text_of_cells cells) ∷ []
where_so false suspicion origin cells = []

-- whether an argument is given: whether it has a cell
abbrev pub is_given : List Cell → Bool
is_given cells = not (length cells == 0)

-- n and the number of comma marks among the cells, as far as 32 bits go
abbrev pub commas_behind : ℕ → List Cell → ℕ
commas_behind n [] = n
commas_behind n (cell ∷ cells) =
    commas_behind (if is_comma cell then min (n + 1) (2 ^ 32 - 1) else n) cells

-- how many comma marks stand among the cells
abbrev pub commas_of : List Cell → ℕ
commas_of cells = commas_behind 0 cells

-- the function that the arguments of a call name
abbrev pub function_of : List Cell → Option Function
function_of arguments = function_named (text_of_cells (argument_of arguments 0))

-- whether a suspicion is that no function has a name
abbrev pub is_no_function : Suspicion → Bool
is_no_function NoFunction = true
is_no_function _ = false

-- what is suspicious in the name of a call: if a form has that name, that it is a form's
abbrev pub with_form : Option Form → Suspicion → Suspicion
with_form None suspicion = suspicion
with_form (Some form) suspicion = FormAsFunction

-- what is suspicious in the name of a call; that a form has the name is only said if no function has it
abbrev pub suspicion_of_call : List Form → List Cell → Option Suspicion
suspicion_of_call forms name =
    option_map (λ s. if is_no_function s then with_form (form_of name forms) s else s)
    (suspicion_of_name (text_of_cells name))

-- the warning of a name
abbrev pub name_warnings : Option Suspicion → Origin → List Cell → List Said
name_warnings None origin name = []
name_warnings (Some suspicion) origin name = where_so true suspicion origin name

-- where an argument was written, if it is given and was written in the same text as the call
abbrev pub written_with : Option Origin → Ending → List Cell → Option Origin
written_with None ending cells = None
written_with (Some place) ending cells =
    if option_eq nat_eq place.form ending.begin.form && is_given cells then Some place else None

-- where the first argument that a function ignores was written, if it is given and was written in the same text
-- as the call; `most` is how many arguments the function takes notice of
abbrev pub ignored_place : ℕ → Ending → Option Origin
ignored_place most ending =
    written_with (slice_get ending.places.now most) ending (argument_of ending.arguments.now (most + 1))

-- the warning that a function ignores an argument, if that was written at a place
abbrev pub ignored_at : Option Origin → List Cell → List Said
ignored_at None cells = []
ignored_at (Some place) cells = where_so true Ignored place cells

-- the warning that a function ignores an argument, by how many arguments it takes notice of
abbrev pub ignored_behind : Option ℕ → Ending → List Said
ignored_behind None ending = []
ignored_behind (Some most) ending =
    ignored_at (ignored_place most ending) (argument_of ending.arguments.now (most + 1))

-- whether the argument at a place is the default value of a function, or one of the two from which it chooses
abbrev pub is_chosen : Option Function → ℕ → Bool
is_chosen None place = false
is_chosen (Some function) place =
    option_eq nat_eq (traits function).default (Some place) || ((traits function).chooses && nat_le 3 place)

-- whether the last argument so far of a call is its default value, or one of the two from which the call chooses
abbrev pub is_in_default : List Cell → Bool
is_in_default around = is_chosen (function_of around) (commas_of around)

-- whether nothing of a form is a value
abbrev pub gives_nothing : Given → Bool
gives_nothing Nothing = true
gives_nothing _ = false

-- whether a function with these traits prints, or changes forms and gives nothing of them
abbrev pub acts : Traits → Bool
acts traits = traits.prints || (traits.changes_forms && gives_nothing traits.gives)

-- whether a function is `ds`, which defines a form
abbrev pub defines : Option Function → Bool
defines (Some DefineString) = true
defines _ = false

-- whether a call is the whole body that `ds` gives a form, but for calls before it that have left nothing
abbrev pub is_whole_body : Ending → Bool
is_whole_body ending =
    ending.is_last && (defines (function_of ending.around.now)
    && ((commas_of ending.around.now == 2) && not (is_given (argument_of ending.around.now 2))))

-- what is suspicious in a call that ends the run, reads, prints or changes forms, and stands in the last argument so
-- far of the call around it
abbrev pub inside : Function → Ending → Option Suspicion
inside function ending =
    let around = ending.around.now in
    if (traits function).ends then Some HaltInside
    else (if (traits function).reads && is_in_default around then Some ReadsAlways
    else (if acts (traits function) && (is_in_default around || is_whole_body ending)
    then Some ActsAlways else None))

-- the warning of a call that ends the run, reads, prints or changes forms inside another call of the same text
abbrev pub nested : Function → Ending → List Said
nested function ending =
    if ending.is_inside
    then name_warnings (inside function ending) ending.begin (argument_of ending.around.now 0)
    else []

-- the warning of the first of two arguments in which something is suspicious, of the call at an origin
abbrev pub first_warned : (first second : Option Suspicion) → Origin → (one other : List Cell) → List Said
first_warned None second origin one other = name_warnings second origin other
first_warned (Some suspicion) second origin one other = where_so true suspicion origin one

-- the warning of the first argument of a call that is taken for a number, and in which something is suspicious
abbrev pub operand_warnings : Function → List Form → Ending → List Said
operand_warnings function forms ending =
    let one = argument_of ending.arguments.now 1 in
    let other = argument_of ending.arguments.now 2 in
    if takes_numbers function
    then first_warned (operand_among forms one) (operand_among forms other) ending.begin one other
    else []

-- whether something is suspicious in an argument of arithmetic
abbrev pub has_odd_operand : List Cell → Bool
has_odd_operand arguments =
    is_some (suspicion_of_operand (argument_of arguments 1))
    || is_some (suspicion_of_operand (argument_of arguments 2))

-- whether a function compares two texts
abbrev pub compares_texts : Function → Bool
compares_texts Equal = true
compares_texts _ = false

-- whether two texts differ, and are the same without the blanks and the layout around them, which isn't null
abbrev pub differ_by_blanks : (one other : List Cell) → Bool
differ_by_blanks one other =
    not (is_same (text_of_cells one) (text_of_cells other))
    && (is_given (trimmed one) && is_same (text_of_cells (trimmed one)) (text_of_cells (trimmed other)))

-- what is suspicious in two texts that are compared: that they differ only by blanks and layout around them, or only
-- in capitals and small letters
abbrev pub suspicion_of_sides : (one other : List Cell) → Option Suspicion
suspicion_of_sides one other =
    if differ_by_blanks one other then Some BlankInSide
    else (if differ_by_letters (text_of_cells one) (text_of_cells other) then Some LetterInSide else None)

-- the warning of a call that compares two texts in which something is suspicious
abbrev pub side_warnings : Function → Ending → List Said
side_warnings function ending =
    let one = argument_of ending.arguments.now 1 in
    let other = argument_of ending.arguments.now 2 in
    if compares_texts function then name_warnings (suspicion_of_sides one other) ending.begin one else []

-- whether a comma seems to part one of the numbers that a call adds, subtracts or multiplies: it has a third number,
-- and one has three digits and stands behind one of at most three
abbrev pub parts_number : List Cell → Bool
parts_number arguments =
    let one = text_of_cells (argument_of arguments 1) in
    let other = text_of_cells (argument_of arguments 2) in
    let more = text_of_cells (argument_of arguments 3) in
    ((is_number one && is_number other) && is_number more)
    && (are_thousands one other || are_thousands other more)

-- the warning of a call that adds, subtracts or multiplies, and in which a comma seems to part a number
abbrev pub comma_warnings : Function → Ending → List Said
comma_warnings function ending =
    where_so (adds function && parts_number ending.arguments.now) CommaInNumber ending.begin
    (argument_of ending.arguments.now 0)

-- whether a function prints a text
abbrev pub prints : Function → Bool
prints PrintString = true
prints _ = false

-- the warning of a call that prints a text whose first call of a function ends it, apart from blanks and layout; it
-- gives the function's name
abbrev pub print_warnings : Function → Ending → List Said
print_warnings function ending =
    let behind = behind_call (text_of_cells (trimmed (argument_of ending.arguments.now 1))) in
    if prints function && (not (length behind == 0) && closes_at_end 1 behind)
    then of_text CallPrinted ending.begin (take 2 behind) ∷ [] else []

-- whether a function changes the meta character
abbrev pub changes_meta : Function → Bool
changes_meta ChangeMeta = true
changes_meta _ = false

-- the warning of a call that makes CR or LF the meta character, in an input that has a line that ends with both
abbrev pub meta_change_warnings : Function → Ending → List Said
meta_change_warnings function ending =
    let new = argument_of ending.arguments.now 1 in
    where_so (changes_meta function && (begins_with_line_end (text_of_cells new)
    && has_two_at_end false ending.input.now)) LineEndAsMeta ending.begin new

-- the warnings of the texts that a call compares, or computes with, or that it prints, or that has the new meta
-- character
abbrev pub given_warnings : Function → Ending → List Said
given_warnings function ending =
    side_warnings function ending ++ (comma_warnings function ending
    ++ (print_warnings function ending ++ meta_change_warnings function ending))

-- whether the argument at a place is given
abbrev pub is_given_at : Option ℕ → List Cell → Bool
is_given_at None arguments = false
is_given_at (Some place) arguments = is_given (argument_of arguments place)

-- whether a call of a function gives a default value
abbrev pub has_default : Function → List Cell → Bool
has_default function arguments = is_given_at (traits function).default arguments

-- whether the function compares, and the argument at a place is one of the two that it compares
abbrev pub compares_at : Option Function → ℕ → Bool
compares_at None place = false
compares_at (Some function) place = (traits function).chooses && nat_le place 2

-- whether the last argument so far of a call is compared
abbrev pub is_compared : List Cell → Bool
is_compared around = compares_at (function_of around) (commas_of around)

-- whether a function is `cl`, which calls a form
abbrev pub calls_form : Option Function → Bool
calls_form (Some CallForm) = true
calls_form _ = false

-- whether a call provides for the case that no form has the name: it gives a default value, or is compared
abbrev pub is_tried : Function → Ending → Bool
is_tried function ending =
    has_default function ending.arguments.now || is_compared ending.around.now

-- what is suspicious in a name that no form has, while `forms` are there: that one has it without the blanks and the
-- layout around it; or that none has it, if the name stands in the script
abbrev pub suspicion_of_missing : List Form → List Cell → Ending → Option Suspicion
suspicion_of_missing forms name ending =
    if is_some (form_of (trimmed name) forms) then Some BlankInName
    else (if is_written (text_of_cells name) ending.input.now then Some NoForm else None)

-- the warning of a name that no form has
abbrev pub missing_warnings : Function → List Form → List Cell → Ending → List Said
missing_warnings function forms name ending =
    if is_tried function ending then []
    else name_warnings (suspicion_of_missing forms name ending) ending.begin name

-- the number of the argument behind a cell, if argument k stands before it
abbrev pub next_text : Cell → ℕ → ℕ
next_text cell k = if is_comma cell then min (k + 1) (2 ^ 32 - 1) else k

-- the warning that names a form, of an argument that was written at a place
abbrev pub naming : Suspicion → Option Origin → Text → List Said
naming suspicion None name = []
naming suspicion (Some place) name = of_text suspicion place name ∷ []

-- what is suspicious in argument k of `ss`, while a body has these items: that it stands in the name of a call; or else
-- that it stands inside longer words
abbrev pub suspicion_of_gap : List Cell → ℕ → List Item → Option Suspicion
suspicion_of_gap text k items =
    if nat_le k 1 || (length text == 0) then None
    else (if stands_in_name (text_of_cells text) items then Some GapInName
    else (if stands_in_words (text_of_cells text) items then Some GapInWord else None))

-- the warning of argument k of `ss`, if something is suspicious in it
abbrev pub gap_at : ℕ → List Item → Ending → List Said
gap_at k items ending =
    let text = argument_of ending.arguments.now k in
    name_warnings (suspicion_of_gap text k items) ending.begin text

-- the warning of the argument of `ss` that begins behind a cell, if argument k stands before the cell
abbrev pub gap_behind : Cell → ℕ → List Item → Ending → List Said
gap_behind cell k items ending = if is_comma cell then gap_at (next_text cell k) items ending else []

-- the warnings of the arguments of `ss` that begin in the cells, if argument k stands before them
abbrev pub gaps_behind : ℕ → List Cell → List Item → Ending → List Said
gaps_behind k [] items ending = []
gaps_behind k (cell ∷ cells) items ending =
    gap_behind cell k items ending ++ gaps_behind (next_text cell k) cells items ending

-- whether argument k of `ss` is a text that stands among the items of a body
abbrev pub holds_text : ℕ → List Item → Ending → Bool
holds_text k items ending =
    let text = argument_of ending.arguments.now k in
    nat_lt 1 k && (is_given text && stands_in (text_of_cells text) items)

-- whether one of the texts of `ss` that begin in the cells stands among the items of a body, if argument k stands
-- before the cells
abbrev pub holds_one : ℕ → List Cell → List Item → Ending → Bool
holds_one k [] items ending = false
holds_one k (cell ∷ cells) items ending =
    (is_comma cell && holds_text (next_text cell k) items ending)
    || holds_one (next_text cell k) cells items ending

-- whether a body is expected to hold one of the texts of a call of `ss`: the first has a letter, and the call stands
-- in the script itself and not in the value of a form
abbrev pub is_expected : Ending → Bool
is_expected ending =
    is_none ending.begin.form
    && list_any is_ascii_alphabetic (text_of_cells (argument_of ending.arguments.now 2))

-- where the first text of `ss` was written, if a body is expected to hold one of the texts and holds none
abbrev pub absent_place : List Item → Ending → Option Origin
absent_place items ending =
    if is_expected ending && not (holds_one 0 ending.arguments.now items ending)
    then written_with (slice_get ending.places.now 1) ending (argument_of ending.arguments.now 2)
    else None

-- what is suspicious in a text of `ss` that stands nowhere among the items of a body: if it stands there in other
-- letters, that it does
abbrev pub suspicion_of_absent : Text → List Item → Suspicion
suspicion_of_absent text items = if stands_in_letters text items then InOtherLetters else NotInForm

-- the warnings of the texts of `ss` that stand in the name of a call among the items of the body of the form `name`,
-- and of the first text, if none stands there
abbrev pub gap_warnings : Text → List Item → Ending → List Said
gap_warnings name items ending =
    gaps_behind 0 ending.arguments.now items ending
    ++ naming (suspicion_of_absent (text_of_cells (argument_of ending.arguments.now 2)) items)
    (absent_place items ending) name

-- where the first argument of `cl` was written for which there is no gap, if it is given and was written in the same
-- text as the call; `highest` is the highest ordinal of a gap
abbrev pub surplus_place : ℕ → Ending → Option Origin
surplus_place highest ending =
    written_with (slice_get ending.places.now (highest + 1)) ending
    (argument_of ending.arguments.now (min (highest + 2) (2 ^ 32 - 1)))

-- whether a function segments a form
abbrev pub segments : Function → Bool
segments SegmentString = true
segments _ = false

-- whether a function searches a form
abbrev pub searches : Function → Bool
searches InitialPart = true
searches _ = false

-- whether a function takes a part of a form without searching for it
abbrev pub takes_next : Function → Bool
takes_next function = takes_part function && not (searches function)

-- whether a call provides for the case that it gets no part of a form: it gives a default value, its value is
-- compared, or a form gets it as an argument
abbrev pub provides : Function → Ending → Bool
provides function ending =
    has_default function ending.arguments.now
    || (is_compared ending.around.now || calls_form (function_of ending.around.now))

-- whether something of a form is left to take, or the call provides for the case that nothing is
abbrev pub is_provided : Function → Form → Ending → Bool
is_provided function form ending =
    nat_lt form.pointer (length form.body) || provides function ending

-- whether a call searches a form in vain, of which something is left, and doesn't provide for that
abbrev pub searches_in_vain : Function → Form → Ending → Bool
searches_in_vain function form ending =
    searches function && (not (provides function ending)
    && is_absent (text_of_cells (argument_of ending.arguments.now 2)) form)

-- what is suspicious in a call for a part of a form: that nothing is left of the form, or that nothing is found
abbrev pub suspicion_of_part : Function → Form → Ending → Option Suspicion
suspicion_of_part function form ending =
    if takes_next function && not (is_provided function form ending) then Some NothingLeft
    else (if searches_in_vain function form ending then Some NothingFound else None)

-- the warning of a call that was written at `begin`, which names a form, if something is suspicious in the call
abbrev pub part_warnings : Option Suspicion → (begin : Origin) → (name : Text) → List Said
part_warnings None begin name = []
part_warnings (Some suspicion) begin name = of_text suspicion begin name ∷ []

-- the warning of a form that is called from its end on, unless the call provides for that
abbrev pub taken_warnings : Form → Ending → List Said
taken_warnings form ending =
    if is_provided CallForm form ending then [] else of_text AllTaken ending.begin form.name ∷ []

-- how many arguments a call of `cl` gives the form, behind the form's name
abbrev pub arguments_given : Ending → ℕ
arguments_given ending = commas_of ending.arguments.now - 1

-- whether a call gives the form `name`, which has so many gaps, an argument, but fewer than it has gaps; not so in a
-- script that also calls the form without any argument, since it leaves gaps null on purpose
abbrev pub is_short : ℕ → Text → Ending → Bool
is_short gaps name ending =
    nat_lt 0 (arguments_given ending)
    && (nat_lt (arguments_given ending) gaps && not (is_called_alone name ending.input.now))

-- the word behind a number of arguments
abbrev pub arguments_word : ℕ → Text
arguments_word given = if given == 1 then codes " argument" else codes " arguments"

-- the name of a form, with how many gaps it has and how many arguments it got
abbrev pub short_text : Text → (gaps given : ℕ) → Text
short_text name gaps given =
    name ++ codes " has " ++ decimal gaps ++ codes " gaps and got " ++ decimal given ++ arguments_word given

-- the warning of the arguments that `cl` gives the form `name`: that there are fewer than its gaps, or of the first for
-- which it has no gap
abbrev pub argument_warnings : ℕ → Text → Ending → List Said
argument_warnings gaps name ending =
    if is_short gaps name ending
    then of_text FewArguments ending.begin (short_text name gaps (arguments_given ending)) ∷ []
    else naming NoGap (surplus_place gaps ending) name

-- the warnings of a form that `cl` calls: of its arguments, or, if the form's pointer was moved, that nothing is left
-- of it; none, if its body is null
abbrev pub called_warnings : Form → Ending → List Said
called_warnings form ending =
    if length form.body == 0 then []
    else (if form.pointer == 0
    then argument_warnings (highest_gap 0 form.body) form.name ending
    else taken_warnings form ending)

-- the warnings of the form whose body a call takes apart or segments
abbrev pub of_body : Function → Form → Ending → List Said
of_body function form ending =
    if segments function then gap_warnings form.name form.body ending
    else (if calls_form (Some function) then called_warnings form ending
    else part_warnings (suspicion_of_part function form ending) ending.begin form.name)

-- the warnings of the form that a call names, or of the name if no form has it
abbrev pub of_form : Function → Option Form → List Form → List Cell → Ending → List Said
of_form function None forms name ending = missing_warnings function forms name ending
of_form function (Some form) forms name ending = of_body function form ending

-- the warnings of the form that a call names, or of the name if no form has it; none if the function needs no form
abbrev pub form_warnings : Function → List Form → Ending → List Said
form_warnings function forms ending =
    let name = argument_of ending.arguments.now 1 in
    if (traits function).needs_form then of_form function (form_of name forms) forms name ending else []

-- the warnings of the arguments that a function uses
abbrev pub use_warnings : Function → List Form → Ending → List Said
use_warnings function forms ending =
    operand_warnings function forms ending
    ++ (given_warnings function ending ++ form_warnings function forms ending)

-- the warnings of a call of a function
abbrev pub function_warnings : Option Function → List Form → Ending → List Said
function_warnings None forms ending =
    let name = argument_of ending.arguments.now 0 in
    name_warnings (suspicion_of_call forms name) ending.begin name
function_warnings (Some function) forms ending =
    ignored_behind (traits function).uses ending
    ++ (nested function ending ++ use_warnings function forms ending)

-- the warnings of a call that is about to be performed, while `forms` are there
abbrev pub call_warnings : List Form → Ending → List Said
call_warnings forms ending = function_warnings (function_of ending.arguments.now) forms ending

-- `called` is the function that the arguments of a call name, while `forms` are there
abbrev pub IsCalled : Option CalledFunction → List Cell → List Form → Type 0
IsCalled None arguments forms = None ≡ function_of arguments
IsCalled (Some called) arguments forms = (Some called.function ≡ function_of arguments)
    × ((called.held ≡ traits called.function)
    × ((traits called.function).needs_form ≡ true → called.form ≡ form_of (argument_of arguments 1) forms))

-- `new` are the warnings `old` and others, which say `more`
abbrev pub Warns : {A : Type 0} → List (Warning A) → List (Warning A) → List Said → Type 0
Warns old new more = map said new ≡ map said old ++ more
