-- What is looked at before a step doesn't hang on what is kept of the step before.
use Rattle.std.proofs.Common.{ℕ, List, Option, Some, None}
use Rattle.std.specs.declared.vec.Vec.{Vec}
use Rattle.trac_space.specs.declared.cell.Cell.{Cell}
use Rattle.trac_core.specs.Machine.{MachineState}
use Rattle.trac_core.specs.declared.machine.open_calls.CallMark.{CallMark}
use Rattle.trac_warnings.specs.Looked.{LooksAtCall}
use Rattle.trac_warnings.specs.declared.warning.Warning.{Warning}
use Rattle.trac_warnings.specs.declared.watch.Watch.{Watch}

pub same_call : {A : Type 0} (mark : Option CallMark) (watch : Watch A) (warnings : Vec (Warning A) A) (arguments : Vec Cell A) (neutral : ℕ) (m : MachineState) (input : List ℕ) (old new : List (Warning A))
    → LooksAtCall mark (record watch { warnings = warnings; arguments = arguments; neutral = neutral }) m input old new → LooksAtCall mark watch m input old new
same_call None watch warnings arguments neutral m input old new looks = looks
same_call (Some mark) watch warnings arguments neutral m input old new looks =
    let e = looks.1.1.1.0 in (
      looks.0,
      (
        looks.1.0,
        (
          looks.1.1.0,
          (
            record {
              arguments_are = e.arguments_are;
              begin_is = e.begin_is;
              places_are = e.places_are;
              around_is = e.around_is;
              inside_is = e.inside_is;
              last_is = e.last_is;
              input_is = e.input_is;
            },
            looks.1.1.1.1,
          ),
        ),
      ),
    )
