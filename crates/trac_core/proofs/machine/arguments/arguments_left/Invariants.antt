use Rattle.trac_core.proofs.Imports.{◌≡◌, ◌+◌, length, texts}
use Rattle.trac_functions.specs.Calls.{AreArguments}
use Rattle.trac_core.proofs.machine.arguments.arguments_left.Given as goal

-- the arguments that were counted, and those that are left
abbrev pub invariant-loop-arguments : goal.invariant-loop-arguments
invariant-loop-arguments l =
    AreArguments l.work l.arguments
    × (l.count + length (texts l.work l.arguments) ≡ length (texts l.work l.fn.arguments))

abbrev pub decreases-loop-arguments : goal.decreases-loop-arguments
decreases-loop-arguments l = length (texts l.work l.arguments)
