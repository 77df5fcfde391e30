-- The name of each function names it.
use Rattle.std.specs.Prelude.{◌≡◌, Some, refl}
use Rattle.trac_language.specs.declared.function.Function.{Function}
use Rattle.trac_language.specs.declared.function.Function.TheVariants as function
use Rattle.trac_language.specs.declared.arith.Arith.TheVariants.{Add, Subtract, Multiply, Divide}
use Rattle.trac_language.specs.Function.{function_named}
use Rattle.trac_language.specs.Table.{name_of}

pub named : (f : Function) → function_named (name_of f) ≡ Some f
named function.ReadString = refl
named function.ReadCharacter = refl
named function.ChangeMeta = refl
named function.PrintString = refl
named function.Halt = refl
named function.DefineString = refl
named function.SegmentString = refl
named function.DeleteDefinition = refl
named function.DeleteAll = refl
named function.ListNames = refl
named function.PrintForm = refl
named function.CallForm = refl
named function.CallSegment = refl
named function.CallCharacter = refl
named function.CallNumber = refl
named function.InitialPart = refl
named function.CallRestore = refl
named function.Equal = refl
named function.Greater = refl
named (function.Arithmetic Add) = refl
named (function.Arithmetic Subtract) = refl
named (function.Arithmetic Multiply) = refl
named (function.Arithmetic Divide) = refl
named function.Union = refl
named function.Intersection = refl
named function.Complement = refl
named function.Shift = refl
named function.Rotate = refl
