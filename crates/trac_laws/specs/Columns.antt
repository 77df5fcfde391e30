-- A law for each column of the table of functions.
use Rattle.std.specs.Prelude.{◌≡◌, ◌↔◌, ℕ, ◌+◌, Bool, true, false, List, [], map, take, drop, Option, Some, None}
use Rattle.std.specs.Prelude.{bytes_eq, ◌⊎◌}
use Rattle.std.specs.List.{list_any}
use Rattle.trac_language.specs.declared.fate.Fate.TheVariants.{Halted}
use Rattle.trac_language.specs.declared.function.Function.{Function}
use Rattle.trac_language.specs.declared.table.Concerned.{Concerned}
use Rattle.trac_language.specs.declared.table.Concerned.TheVariants as concerned
use Rattle.trac_language.specs.declared.table.Given.TheVariants as given
use Rattle.trac_language.specs.Text.{Text}
use Rattle.trac_language.specs.Form.{Form, fill, after_pointer}
use Rattle.trac_language.specs.Store.{form_named}
use Rattle.trac_language.specs.State.{argument}
use Rattle.trac_language.specs.Part.{Part}
use Rattle.trac_language.specs.Meaning.{World, Answer, Meaning, Gives, Ends, meaning_of, silent, valued, forced}
use Rattle.trac_language.specs.Meaning.{form_of_call, take_of_call}
use Rattle.trac_language.specs.Table.{traits}

-- whatever a call answers has a property; of a call that ends the run nothing is said
abbrev pub Always : (Answer → Type 0) → Meaning → Type 0
Always property (Gives answer) = property answer
Always property (Ends fate) = Unit {0}

-- arguments past the count make no difference
abbrev pub UsesFew : Type 0
UsesFew =
    (f : Function) (args : List Text) (world : World) (n : ℕ) →
    (traits f).uses ≡ Some n →
    meaning_of f (take (n + 1) args) world ≡ meaning_of f args world

-- whether the table says that a call concerns the form of a name
abbrev pub concerns : Concerned → List Text → Text → Bool
concerns concerned.Nothing args name = false
concerns concerned.First args name = bytes_eq (argument args 1) name
concerns concerned.Each args name = list_any (bytes_eq name) (drop 1 args)
concerns concerned.All args name = true

-- a form that a call doesn't concern is as it was, and where there was none of its name there is none
abbrev pub LeavesOthers : Type 0
LeavesOthers =
    (f : Function) (args : List Text) (world : World) (name : Text) →
    concerns (traits f).forms args name ≡ false →
    Always (λ answer. form_named name answer.world.forms ≡ form_named name world.forms) (meaning_of f args world)

-- a call that needs a form does nothing where no form has the name that its first argument is
abbrev pub NeedsForm : Type 0
NeedsForm =
    (f : Function) (args : List Text) (world : World) →
    (traits f).needs_form ≡ true →
    form_of_call args world ≡ None →
    meaning_of f args world ≡ silent world

-- a function that changes no form leaves all of them
abbrev pub LeavesForms : Type 0
LeavesForms =
    (f : Function) (args : List Text) (world : World) →
    (traits f).changes_forms ≡ false →
    Always (λ answer. answer.world.forms ≡ world.forms) (meaning_of f args world)

-- a function that gives a form's body has it as its value, from the pointer on and with its gaps filled
abbrev pub GivesBody : Type 0
GivesBody =
    (f : Function) (args : List Text) (world : World) (form : Form) →
    (traits f).gives ≡ given.Body →
    form_of_call args world ≡ Some form →
    meaning_of f args world ≡ valued (fill (drop 2 args) (after_pointer form)) world

-- a function that gives a part of a form takes it from the form that its first argument names, or gives its default
-- value
abbrev pub GivesPart : Type 0
GivesPart =
    (f : Function) (args : List Text) (world : World) →
    (traits f).gives ≡ given.Part →
    (part : Form → Option Part) × (default : Text) × (meaning_of f args world ≡ take_of_call args world part default)

-- a form of the same name with an empty body
abbrev pub emptied : Form → Form
emptied form = record { name = form.name; body = []; pointer = 0 }

-- the value of a call; none where it ends the run
abbrev pub value_of : Meaning → Option Text
value_of (Gives answer) = Some answer.value
value_of (Ends fate) = None

-- a function that gives nothing of a form has the same value whatever the bodies of all forms are
abbrev pub GivesNothing : Type 0
GivesNothing =
    (f : Function) (args : List Text) (world : World) →
    (traits f).gives ≡ given.Nothing →
    value_of (meaning_of f args (record world { forms = map emptied world.forms })) ≡ value_of (meaning_of f args world)

-- the text is the default value that the table tells of
abbrev pub IsDefault : Option ℕ → List Text → Text → Type 0
IsDefault None args text = ⊥
IsDefault (Some place) args text = text ≡ argument args place

-- a value that goes to the active string whatever the call's mode is the default value
abbrev pub OnlyDefault : Type 0
OnlyDefault =
    (f : Function) (args : List Text) (world : World) →
    Always (λ answer. answer.forced ≡ true → IsDefault (traits f).default args answer.value) (meaning_of f args world)

-- a function with a default value gives each text as that, in some call
abbrev pub GivesDefault : Type 0
GivesDefault =
    (f : Function) (place : ℕ) (text : Text) (world : World) →
    (traits f).default ≡ Some place →
    (args : List Text) × ((forms : List Form) × ((argument args place ≡ text)
    × (meaning_of f args (record world { forms = forms }) ≡ forced text (record world { forms = forms }))))

-- a function that chooses has its third or its fourth argument as its value
abbrev pub Chooses : Type 0
Chooses =
    (f : Function) (args : List Text) (world : World) →
    (traits f).chooses ≡ true →
    Always (λ answer. (answer.value ≡ argument args 3) ⊎ (answer.value ≡ argument args 4)) (meaning_of f args world)

-- a function that doesn't read leaves the input
abbrev pub LeavesInput : Type 0
LeavesInput =
    (f : Function) (args : List Text) (world : World) →
    (traits f).reads ≡ false →
    Always (λ answer. answer.world.input ≡ world.input) (meaning_of f args world)

-- a function that doesn't print prints nothing
abbrev pub PrintsNothing : Type 0
PrintsNothing =
    (f : Function) (args : List Text) (world : World) →
    (traits f).prints ≡ false →
    Always (λ answer. answer.printed ≡ []) (meaning_of f args world)

-- a function that doesn't change the meta character leaves it
abbrev pub LeavesMeta : Type 0
LeavesMeta =
    (f : Function) (args : List Text) (world : World) →
    (traits f).changes_meta ≡ false →
    Always (λ answer. answer.world.meta ≡ world.meta) (meaning_of f args world)

-- just the function that ends the run halts it
abbrev pub EndsOnly : Type 0
EndsOnly =
    (f : Function) (args : List Text) (world : World) →
    ((traits f).ends ≡ true) ↔ (meaning_of f args world ≡ Ends Halted)
