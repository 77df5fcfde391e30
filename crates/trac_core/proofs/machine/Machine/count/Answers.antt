use Rattle.trac_core.proofs.Imports.{arith}
use Rattle.trac_functions.proofs.FlatLemmas.{size-used}
use Rattle.trac_core.proofs.machine.Machine.count.Goals as goal

pub returns-clause-limits : goal.returns-clause-limits
returns-clause-limits c =
    let i = c.self.inside in
    record { cells = omega (arith, size-used i.meta i.work); steps = omega arith; peak = omega arith }
