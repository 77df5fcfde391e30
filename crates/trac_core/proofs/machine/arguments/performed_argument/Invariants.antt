use Rattle.trac_core.proofs.Imports.{◌≡◌, drop, texts, arguments_at}
use Rattle.trac_functions.specs.Calls.{AreArguments}
use Rattle.trac_core.proofs.machine.arguments.performed_argument.Given as goal

-- the arguments that are left are those behind the ones that were passed over
abbrev pub invariant-loop-before : goal.invariant-loop-before
invariant-loop-before l =
    AreArguments l.work l.arguments × (texts l.work l.arguments ≡ drop l._before (arguments_at l.work.neutral l.place))
