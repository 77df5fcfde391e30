-- The table of functions: what can be said of all calls of a function.
use Rattle.std.specs.Prelude.{true, false, Some, None, codes}
use Rattle.trac_language.specs.declared.function.Function.{Function}
use Rattle.trac_language.specs.declared.function.Function.TheVariants as function
use Rattle.trac_language.specs.declared.arith.Arith.TheVariants.{Add, Subtract, Multiply, Divide}
use Rattle.trac_language.specs.declared.table.Traits.{Traits}
use Rattle.trac_language.specs.declared.table.Concerned.TheVariants as concerned
use Rattle.trac_language.specs.declared.table.Given.TheVariants as given
use Rattle.trac_language.specs.Text.{Text}

-- the name of each function
abbrev pub name_of : Function → Text
name_of function.ReadString = codes "rs"
name_of function.ReadCharacter = codes "rc"
name_of function.ChangeMeta = codes "cm"
name_of function.PrintString = codes "ps"
name_of function.Halt = codes "hl"
name_of function.DefineString = codes "ds"
name_of function.SegmentString = codes "ss"
name_of function.DeleteDefinition = codes "dd"
name_of function.DeleteAll = codes "da"
name_of function.ListNames = codes "ln"
name_of function.PrintForm = codes "pf"
name_of function.CallForm = codes "cl"
name_of function.CallSegment = codes "cs"
name_of function.CallCharacter = codes "cc"
name_of function.CallNumber = codes "cn"
name_of function.InitialPart = codes "in"
name_of function.CallRestore = codes "cr"
name_of function.Equal = codes "eq"
name_of function.Greater = codes "gr"
name_of (function.Arithmetic Add) = codes "ad"
name_of (function.Arithmetic Subtract) = codes "su"
name_of (function.Arithmetic Multiply) = codes "ml"
name_of (function.Arithmetic Divide) = codes "dv"
name_of function.Union = codes "bu"
name_of function.Intersection = codes "bi"
name_of function.Complement = codes "bc"
name_of function.Shift = codes "bs"
name_of function.Rotate = codes "br"

-- a function that uses two arguments, has a value, and does nothing else
abbrev pub no_traits : Traits
no_traits = record {
  uses = Some 2;
  forms = concerned.Nothing;
  needs_form = false;
  changes_forms = false;
  gives = given.Nothing;
  default = None;
  chooses = false;
  reads = false;
  prints = false;
  changes_meta = false;
  ends = false;
}

-- a function that does nothing where the form that its first argument names isn't there
abbrev pub of_form : Traits
of_form = record no_traits { forms = concerned.First; needs_form = true }

-- a function that takes a part of a form, with two arguments
abbrev pub of_part : Traits
of_part = record of_form { changes_forms = true; gives = given.Part }

-- what each function makes of its arguments and of the machine
abbrev pub traits : Function → Traits
traits function.ReadString = record no_traits { uses = Some 0; reads = true }
traits function.ReadCharacter = record no_traits { uses = Some 0; reads = true }
traits function.ChangeMeta = record no_traits { uses = Some 1; changes_meta = true }
traits function.PrintString = record no_traits { uses = Some 1; prints = true }
traits function.Halt = record no_traits { uses = Some 0; ends = true }
traits function.DefineString = record no_traits { forms = concerned.First; changes_forms = true }
traits function.SegmentString = record of_form { uses = None; changes_forms = true }
traits function.DeleteDefinition = record no_traits { uses = None; forms = concerned.Each; changes_forms = true }
traits function.DeleteAll = record no_traits { uses = Some 0; forms = concerned.All; changes_forms = true }
traits function.ListNames = record no_traits { uses = Some 1; forms = concerned.All }
traits function.PrintForm = record of_form { uses = Some 1; prints = true }
traits function.CallForm = record of_form { uses = None; gives = given.Body }
traits function.CallSegment = record of_part { default = Some 2 }
traits function.CallCharacter = record of_part { default = Some 2 }
traits function.CallNumber = record of_part { uses = Some 3; default = Some 3 }
traits function.InitialPart = record of_part { uses = Some 3; default = Some 3 }
traits function.CallRestore = record of_form { uses = Some 1; changes_forms = true }
traits function.Equal = record no_traits { uses = Some 4; chooses = true }
traits function.Greater = record no_traits { uses = Some 4; chooses = true }
traits (function.Arithmetic operation) = record no_traits { uses = Some 3; default = Some 3 }
traits function.Union = no_traits
traits function.Intersection = no_traits
traits function.Complement = record no_traits { uses = Some 1 }
traits function.Shift = no_traits
traits function.Rotate = no_traits
