use Rattle.std.specs.Int.{w128}
use Rattle.std.specs.Prelude.{unsigned_abs}
use Rattle.trac_functions.proofs.Imports.{ap, ◌∙◌, arith, to_z-of_z}
use Rattle.trac_functions.proofs.arithmetic.give_number.Goals as goal

pub give_long_number-requires-clause-long : goal.give_long_number-requires-clause-long
give_long_number-requires-clause-long c =
    let size = c.unsigned_abs.ensures.value ∙ ap unsigned_abs (to_z-of_z w128 c.args.number c.ranges.number) in
    omega (arith, size, c.if-unsigned_abs-ge-POWER.true)
