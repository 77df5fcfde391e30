use Rattle.trac_forms.proofs.Imports.{arith, forms_in, pointer-within}
use Rattle.trac_forms.proofs.Strings.{used-stored}
use Rattle.trac_forms.proofs.work.Work.heads.Goals as goal

pub returns-clause-inside : goal.returns-clause-inside
returns-clause-inside c =
    omega (arith, pointer-within (forms_in c.self.inside.space.store) c.args.form.number c.self.invariant.sound.forms, c.heads_of.ensures)

pub returns-clause-within : goal.returns-clause-within
returns-clause-within c =
    let used = used-stored c.self.inside.space c.self.invariant.forms.whole in
    rw (← c.self.view_is) (omega (arith, used, c.heads_of.ensures, c.self.invariant.sound.fits))
