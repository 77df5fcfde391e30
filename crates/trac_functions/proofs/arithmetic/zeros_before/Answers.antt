use Rattle.std.specs.Prelude.{length, ◌-◌}
use Rattle.trac_functions.proofs.Imports.{arith}
use Rattle.trac_functions.proofs.LongNumbers.{zeros-left}
use Rattle.trac_functions.proofs.arithmetic.zeros_before.Goals as goal

pub returns : goal.returns
returns c =
    let n = length c.args.digits.now in
    zeros-left 19 n (19 - n) (omega (arith, c.requires))
