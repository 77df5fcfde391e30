-- Where the value of a call comes from.
use Rattle.std.specs.Prelude.{◌≡◌, ℕ, ◌-◌, ◌==◌, min, max, List, [], ◌++◌, drop, length, Option, Some, None}
use Rattle.std.specs.Prelude.{ℤ, bytes_eq, int_lt, unsigned_abs, if◌then◌else◌}
use Rattle.trac_language.specs.declared.function.Function.{Function}
use Rattle.trac_language.specs.declared.function.Function.TheVariants as function
use Rattle.trac_language.specs.Text.{Text}
use Rattle.trac_language.specs.Form.{Form, fill, after_pointer}
use Rattle.trac_language.specs.Store.{IsStore, form_named}
use Rattle.trac_language.specs.Number.{arith, number}
use Rattle.trac_language.specs.Part.{characters_between}
use Rattle.trac_language.specs.State.{argument}
use Rattle.trac_language.specs.Meaning.{World, Answer, Meaning, Gives, Ends, meaning}
use Rattle.trac_core.specs.Machine.{MachineState}
use Rattle.trac_core.specs.OpenCalls.{next_texts}
use Rattle.trac_core.specs.Session.{next_function}
use Rattle.trac_events.specs.declared.source.ValueSource.{ValueSource}
use Rattle.trac_events.specs.declared.source.ValueSource.TheVariants.{Nothing, Argument, Body, Part, Input, Made}

-- a source that a call has if there is the form that it needs; without that form its value is null
abbrev pub of_form : Option Form → ValueSource → ValueSource
of_form None source = Nothing
of_form (Some form) source = source

-- the source of a call's value among these forms, if it needs the form that its first argument names
abbrev pub of_named_form : List Text → List Form → ValueSource → ValueSource
of_named_form args forms source = of_form (form_named (argument args 1) forms) source

-- the source of a value that is a part of a form, less the items sought, or the argument that is the default value
abbrev pub part_source : ℕ → ℕ → ValueSource
part_source sought default = Part (record { sought = sought; default = default })

-- the source of the value of arithmetic: the result is made, and without a result the value is the third argument
abbrev pub result_source : Option ℤ → ValueSource
result_source (Some n) = Made
result_source None = Argument 3

-- the source of the value of a call of a function, by its arguments, the name first, and the forms
abbrev pub function_source : Function → List Text → List Form → ValueSource
function_source function.ReadString args forms = Input
function_source function.ReadCharacter args forms = Input
function_source function.ChangeMeta args forms = Nothing
function_source function.PrintString args forms = Nothing
function_source function.Halt args forms = Nothing
function_source function.DefineString args forms = Nothing
function_source function.SegmentString args forms = Nothing
function_source function.DeleteDefinition args forms = Nothing
function_source function.DeleteAll args forms = Nothing
function_source function.ListNames args forms = Made
function_source function.PrintForm args forms = Nothing
function_source function.CallForm args forms = of_named_form args forms Body
function_source function.CallSegment args forms = of_named_form args forms (part_source 0 2)
function_source function.CallCharacter args forms = of_named_form args forms (part_source 0 2)
function_source function.CallNumber args forms =
    if unsigned_abs (number (argument args 2)) == 0 then Nothing
    else of_named_form args forms (part_source 0 3)
function_source function.InitialPart args forms =
    if length (argument args 2) == 0 then Nothing
    else of_named_form args forms (part_source (length (argument args 2)) 3)
function_source function.CallRestore args forms = Nothing
function_source function.Equal args forms =
    if bytes_eq (argument args 1) (argument args 2) then Argument 3 else Argument 4
function_source function.Greater args forms =
    if int_lt (number (argument args 2)) (number (argument args 1)) then Argument 3 else Argument 4
function_source (function.Arithmetic operation) args forms =
    result_source (arith operation (number (argument args 1)) (number (argument args 2)))
function_source function.Union args forms = Made
function_source function.Intersection args forms = Made
function_source function.Complement args forms = Made
function_source function.Shift args forms = Made
function_source function.Rotate args forms = Made

-- the source of the value of a call; the value is null if no function has the name
abbrev pub value_source : Option Function → List Text → List Form → ValueSource
value_source None args forms = Nothing
value_source (Some function) args forms = function_source function args forms

-- the source of the value of the call that the next step performs; nothing if it performs none
abbrev pub next_source : MachineState → ValueSource
next_source m = value_source (next_function m) (next_texts m) m.memory.forms

-- the characters of a form that its pointer passed over on its way to the place `later`, without the last `sought`
-- items
abbrev pub passed_over : Form → ℕ → ℕ → Text
passed_over form later sought =
    characters_between form.body (min form.pointer later) (max form.pointer later - sought)

-- what the pointer of a form passed over, or the default text if the pointer stayed
abbrev pub part_or_default : Form → ℕ → ℕ → Text → Text
part_or_default form later sought default =
    if form.pointer == later then default else passed_over form later sought

-- the value of an answer to a call comes from a source:
-- * it is null;
-- * it is an argument, the name being argument 0;
-- * it is all of the form that the call names from its pointer on, its gaps filled by the arguments;
-- * it is what the pointer of the form that the call names passed over, or an argument if the pointer stayed;
-- * the input begins with it;
-- * the function makes it, and changes nothing
abbrev pub ComesFrom : ValueSource → List Text → World → Answer → Type 0
ComesFrom Nothing args world answer = answer.value ≡ []
ComesFrom (Argument k) args world answer = answer.value ≡ argument args k
ComesFrom Body args world answer = (form : Form)
    × ((form_named (argument args 1) world.forms ≡ Some form)
    × (answer.value ≡ fill (drop 2 args) (after_pointer form)))
ComesFrom (Part part) args world answer = (form : Form) × ((later : Form)
    × ((form_named (argument args 1) world.forms ≡ Some form)
    × ((form_named (argument args 1) answer.world.forms ≡ Some later)
    × (answer.value ≡ part_or_default form later.pointer part.sought (argument args part.default)))))
ComesFrom Input args world answer = (rest : Text) × (world.input.text ≡ answer.value ++ rest)
ComesFrom Made args world answer = answer.world ≡ world

-- the value of what a call means comes from a source; a call that ends the run has no value
abbrev pub MeansFrom : ValueSource → List Text → World → Meaning → Type 0
MeansFrom source args world (Gives answer) = ComesFrom source args world answer
MeansFrom source args world (Ends fate) = Unit {0}

-- the value of each call comes from its source
abbrev pub ValuesComeFrom : Type 0
ValuesComeFrom =
    (function : Option Function) (args : List Text) (world : World) →
    IsStore world.forms →
    MeansFrom (value_source function args world.forms) args world (meaning function args world)
