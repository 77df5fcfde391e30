use Rattle.trac_core.proofs.Imports.{arith, ap}
use Rattle.trac_forms.specs.Contents.{Contents}
use Rattle.trac_functions.proofs.FlatLemmas.{size-used}
use Rattle.trac_core.proofs.machine.Machine.delete.Goals as goal

pub returns-clause-limits : goal.returns-clause-limits
returns-clause-limits c =
    let i = c.self.inside in
    let same = ap (λ (w : Contents). w.room) c.delete_by_name.ensures.gone in
    record { cells = omega (arith, size-used i.meta c.delete_by_name.new.self, c.delete_by_name.ensures.sound.fits); steps = omega arith; peak = omega (arith, same) }
