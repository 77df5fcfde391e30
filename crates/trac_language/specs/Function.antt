-- The names of the functions.
use Rattle.std.specs.Prelude.{List, [], ◌∷◌, map, Option, Some, None, if◌then◌else◌, codes}
use Rattle.std.specs.Prelude.{bytes_eq}
use Rattle.std.specs.Char.{to_ascii_lowercase}
use Rattle.trac_language.specs.declared.function.Function.{Function}
use Rattle.trac_language.specs.declared.function.Function.TheVariants.{ReadString, ReadCharacter}
use Rattle.trac_language.specs.declared.function.Function.TheVariants.{ChangeMeta, PrintString}
use Rattle.trac_language.specs.declared.function.Function.TheVariants.{Halt, DefineString}
use Rattle.trac_language.specs.declared.function.Function.TheVariants.{SegmentString}
use Rattle.trac_language.specs.declared.function.Function.TheVariants.{DeleteDefinition, DeleteAll}
use Rattle.trac_language.specs.declared.function.Function.TheVariants.{ListNames, PrintForm}
use Rattle.trac_language.specs.declared.function.Function.TheVariants.{CallForm, CallSegment}
use Rattle.trac_language.specs.declared.function.Function.TheVariants.{CallCharacter, CallNumber}
use Rattle.trac_language.specs.declared.function.Function.TheVariants.{InitialPart, CallRestore}
use Rattle.trac_language.specs.declared.function.Function.TheVariants.{Equal, Greater, Arithmetic}
use Rattle.trac_language.specs.declared.function.Function.TheVariants.{Union, Intersection}
use Rattle.trac_language.specs.declared.function.Function.TheVariants.{Complement, Shift, Rotate}
use Rattle.trac_language.specs.declared.arith.Arith.TheVariants.{Add, Subtract, Multiply, Divide}
use Rattle.trac_language.specs.Text.{Text}

-- each name with its function
abbrev pub functions : List (Text × Function)
functions =
    (codes "rs", ReadString) ∷ (codes "rc", ReadCharacter) ∷ (codes "cm", ChangeMeta)
    ∷ (codes "ps", PrintString) ∷ (codes "hl", Halt)
    ∷ (codes "ds", DefineString) ∷ (codes "ss", SegmentString)
    ∷ (codes "dd", DeleteDefinition) ∷ (codes "da", DeleteAll)
    ∷ (codes "ln", ListNames) ∷ (codes "pf", PrintForm)
    ∷ (codes "cl", CallForm) ∷ (codes "cs", CallSegment) ∷ (codes "cc", CallCharacter)
    ∷ (codes "cn", CallNumber) ∷ (codes "in", InitialPart) ∷ (codes "cr", CallRestore)
    ∷ (codes "eq", Equal) ∷ (codes "gr", Greater)
    ∷ (codes "ad", Arithmetic Add) ∷ (codes "su", Arithmetic Subtract)
    ∷ (codes "ml", Arithmetic Multiply) ∷ (codes "dv", Arithmetic Divide)
    ∷ (codes "bu", Union) ∷ (codes "bi", Intersection) ∷ (codes "bc", Complement)
    ∷ (codes "bs", Shift) ∷ (codes "br", Rotate) ∷ []

-- the function that stands beside a name
abbrev pub look_up : Text → List (Text × Function) → Option Function
look_up name [] = None
look_up name (entry ∷ entries) =
    if bytes_eq name entry.0 then Some entry.1 else look_up name entries

-- letters of either case name a function
abbrev pub function_named : Text → Option Function
function_named name = look_up (map to_ascii_lowercase name) functions
