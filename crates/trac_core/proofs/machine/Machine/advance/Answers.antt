use Rattle.trac_core.proofs.Imports.{MachineState, standing, ap, sym, arith}
use Rattle.trac_functions.proofs.FlatLemmas.{size-used}
use Rattle.trac_core.proofs.Advancing.{advanced-alone}
use Rattle.trac_core.proofs.machine.Machine.advance.Goals as goal

pub returns-then-is_some-clause-limits : goal.returns-then-is_some-clause-limits
returns-then-is_some-clause-limits c =
    let i = c.self.inside in
    rw (← c.self.view_is)
    (record { cells = omega (arith, size-used i.meta i.work); steps = c.self.invariant.0; peak = c.self.invariant.1 })

pub returns-clause-advanced : goal.returns-clause-advanced
returns-clause-advanced c = λ going.
    advanced-alone c.self.inside.stops c.args.most c.drive.result.done (standing c.args.self.now tt tt) (standing c.drive.new.self c.drive.new.source c.drive.new.sink) (sym (ap (λ (m : MachineState). m.stops) c.self.view_is)) c.drive.ensures.driven
