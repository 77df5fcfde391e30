use Rattle.trac_functions.proofs.Imports.{◌≡◌, ◌+◌}
use Rattle.std.specs.Prelude.{◌*◌, ◌^◌}
use Rattle.trac_functions.proofs.arithmetic.parted.Given as goal

-- the guess is too low by what is left of the number
abbrev pub invariant-loop-rest : goal.invariant-loop-rest
invariant-loop-rest l = record { whole : l.quotient * 10 ^ 19 + l.rest ≡ l.number }

abbrev pub decreases-loop-rest : goal.decreases-loop-rest
decreases-loop-rest l = l.rest
