use Rattle.trac_forms.proofs.Imports.{arith}
use Rattle.trac_forms.proofs.Strings.{run-moved}
use Rattle.trac_forms.proofs.work.Work.run_to_neutral.Goals as goal

pub invariant_of-self : goal.invariant_of-self
invariant_of-self c =
    let s = c.self.inside in
    let within = rw (← c.self.view_is) at c.requires.within in
    run-moved c.self.invariant c.run_to_neutral.new.self c.run_to_neutral.result c.args.table.now (omega (arith, c.run_to_neutral.ensures.few, within)) c.run_to_neutral.ensures.moved

pub returns-clause-sound : goal.returns-clause-sound
returns-clause-sound c = (invariant_of-self c).sound
