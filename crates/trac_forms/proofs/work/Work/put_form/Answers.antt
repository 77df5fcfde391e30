use Rattle.trac_forms.proofs.Imports.{refl, arith, false≢true, forms_in, IsSound, NoneNamed-after, cells-without}
use Rattle.trac_forms.proofs.Strings.{used-stored}
use Rattle.trac_forms.proofs.work.Work.put_form.Goals as goal

pub returns-then-free-need-clause-full : goal.returns-then-free-need-clause-full
returns-then-free-need-clause-full g c =
    rw (← c.self.view_is) (λ _. omega (arith, used-stored c.self.inside.space c.self.invariant.forms.whole, c.free.ensures), λ _. refl)

pub append_given-requires-clause-unnamed : goal.append_given-requires-clause-unnamed
append_given-requires-clause-unnamed g c =
    let sound : IsSound c.args.self.now = rw (← c.self.view_is) c.self.invariant.sound in
    rw c.delete_by_name.ensures.gone (NoneNamed-after _ _ sound.forms)

pub append_given-requires-clause-room : goal.append_given-requires-clause-room
append_given-requires-clause-room g c =
    let s = c.self.inside.space in
    let fewer = cells-without c.args.name.now (forms_in s.store) in
    rw c.delete_by_name.ensures.gone
    (rw (← c.self.view_is) (omega (arith, fewer, used-stored s c.self.invariant.forms.whole, c.free.ensures, c.if-free-need.false)))

pub returns-clause-full : goal.returns-clause-full
returns-clause-full g c =
    rw (← c.self.view_is) (λ e. absurd (false≢true e), λ less. absurd (omega (arith, used-stored c.self.inside.space c.self.invariant.forms.whole, c.free.ensures, c.if-free-need.false)))
