-- The function that the next step performs.
use Rattle.std.specs.Prelude.{Bool, true, false, ◌||◌, List, [], ◌∷◌, length, nat_lt, Option, Some, None}
use Rattle.trac_language.specs.declared.function.Function.{Function}
use Rattle.trac_language.specs.declared.function.Function.TheVariants.{ReadString, ReadCharacter}
use Rattle.trac_language.specs.declared.function.Function.TheVariants.{PrintString, PrintForm}
use Rattle.trac_language.specs.Text.{Text}
use Rattle.trac_language.specs.State.{OpenCall, Memory, argument, arguments}
use Rattle.trac_language.specs.Rule.{Rule, LoadIdling, DeleteLayout, AddProtected, ClearActive}
use Rattle.trac_language.specs.Rule.{BeginArgument, BeginCall, EndCall, AddCharacter, rule}
use Rattle.trac_language.specs.Step.{function_of}

-- the function of the innermost of `calls`, if the rule performs that call
abbrev pub performed_by : Rule → List OpenCall → Option Function
performed_by (EndCall rest) [] = None
performed_by (EndCall rest) (call ∷ outer) = function_of call
performed_by LoadIdling calls = None
performed_by (DeleteLayout rest) calls = None
performed_by (AddProtected inside rest) calls = None
performed_by ClearActive calls = None
performed_by (BeginArgument rest) calls = None
performed_by (BeginCall mode rest) calls = None
performed_by (AddCharacter c rest) calls = None

-- the function that the next step performs, if it performs a call of one
abbrev pub performs : Memory → Option Function
performs memory = performed_by (rule memory.active) memory.calls

-- whether a call of the function reads
abbrev pub reads_input : Option Function → Bool
reads_input None = false
reads_input (Some ReadString) = true
reads_input (Some ReadCharacter) = true
reads_input (Some _) = false

-- whether a call of the function prints
abbrev pub prints_output : Option Function → Bool
prints_output None = false
prints_output (Some PrintString) = true
prints_output (Some PrintForm) = true
prints_output (Some _) = false

-- whether a call of the function reads or prints
abbrev pub touches_device : Option Function → Bool
touches_device function = reads_input function || prints_output function

-- whether a call of the function with these arguments, its name the first, needs a device: it reads,
-- it displays a form, or it prints a text that isn't null
abbrev pub calls_device : Option Function → List Text → Bool
calls_device None arguments = false
calls_device (Some PrintString) arguments = nat_lt 0 (length (argument arguments 1))
calls_device (Some function) arguments = touches_device (Some function)

-- whether the rule performs the innermost of `calls`, and that call needs a device
abbrev pub needs_device_by : Rule → List OpenCall → Bool
needs_device_by (EndCall rest) [] = false
needs_device_by (EndCall rest) (call ∷ outer) = calls_device (function_of call) (arguments call)
needs_device_by LoadIdling calls = false
needs_device_by (DeleteLayout rest) calls = false
needs_device_by (AddProtected inside rest) calls = false
needs_device_by ClearActive calls = false
needs_device_by (BeginArgument rest) calls = false
needs_device_by (BeginCall mode rest) calls = false
needs_device_by (AddCharacter c rest) calls = false

-- whether the next step needs a device
abbrev pub needs_device : Memory → Bool
needs_device memory = needs_device_by (rule memory.active) memory.calls
