use Rattle.trac_forms.proofs.Imports.{sym, ap, without-at, without-none, form_named-at, form_named-none, IsSound}
use Rattle.std.specs.Prelude.{is_some}
use Rattle.trac_forms.proofs.work.Work.delete_by_name.Goals as goal

pub returns-in-Some-clause-was : goal.returns-in-Some-clause-was
returns-in-Some-clause-was c =
    let sound : IsSound c.args.self.now = rw (← c.self.view_is) c.self.invariant.sound in
    sym (ap is_some (form_named-at _ _ _ sound.forms c.in-Some.ensures.named))

pub returns-in-Some-clause-gone : goal.returns-in-Some-clause-gone
returns-in-Some-clause-gone c =
    let sound : IsSound c.args.self.now = rw (← c.self.view_is) c.self.invariant.sound in
    rw (without-at _ _ _ sound.forms c.in-Some.ensures.named) c.remove.ensures.gone

pub returns-in-None-clause-was : goal.returns-in-None-clause-was
returns-in-None-clause-was c = sym (ap is_some (form_named-none _ _ c.in-None.ensures))

pub returns-in-None-clause-gone : goal.returns-in-None-clause-gone
returns-in-None-clause-gone c =
    let now = c.args.self.now in
    ap (λ forms. record now { forms = forms }) (sym (without-none c.args.name.now now.forms c.in-None.ensures))
