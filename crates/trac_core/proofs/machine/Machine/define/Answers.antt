use Rattle.trac_core.proofs.Imports.{arith}
use Rattle.trac_functions.proofs.FlatLemmas.{size-used}
use Rattle.trac_core.proofs.machine.Machine.define.Goals as goal

pub returns-in_default-clause-limits : goal.returns-in_default-clause-limits
returns-in_default-clause-limits c =
    let i = c.self.inside in
    rw (← c.self.view_is) (record { cells = omega (arith, size-used i.meta i.work); steps = omega arith; peak = omega arith })

pub returns-then-pointer-codes-clause-limits : goal.returns-then-pointer-codes-clause-limits
returns-then-pointer-codes-clause-limits c =
    let i = c.self.inside in
    rw (← c.self.view_is) (record { cells = omega (arith, size-used i.meta i.work); steps = omega arith; peak = omega arith })
