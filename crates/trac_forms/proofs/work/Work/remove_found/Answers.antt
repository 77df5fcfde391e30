use Rattle.trac_forms.proofs.Imports.{sym, ap, part_text, without-at, without-none, IsSound}
use Rattle.trac_forms.proofs.work.Work.remove_found.Goals as goal

pub returns-in-Some-clause-gone : goal.returns-in-Some-clause-gone
returns-in-Some-clause-gone c =
    let sound : IsSound c.args.self.now = rw (← c.self.view_is) c.self.invariant.sound in
    let at = rw c.in-Some.is at c.requires.found in
    rw (without-at _ _ _ sound.forms at.named) c.remove.ensures.gone

pub returns-in_default-clause-gone : goal.returns-in_default-clause-gone
returns-in_default-clause-gone c =
    let now = c.args.self.now in
    let none = rw c.in_default.is at c.requires.found in
    ap (λ forms. record now { forms = forms }) (sym (without-none (part_text now.neutral c.args.name.from c.args.name.to) now.forms none))
