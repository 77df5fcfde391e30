use Rattle.trac_forms.proofs.Imports.{refl, arith, false≢true, part_text, forms_in, IsSound, NoneNamed-after, cells-without}
use Rattle.trac_forms.proofs.Strings.{used-stored}
use Rattle.trac_forms.proofs.work.Work.define_form.Goals as goal

pub returns-then-free-need-clause-full : goal.returns-then-free-need-clause-full
returns-then-free-need-clause-full c =
    let name_in = rw (← c.self.view_is) at c.requires.parts.name_part.within in
    let text_in = rw (← c.self.view_is) at c.requires.parts.text_part.within in
    rw (← c.self.view_is) (λ _. omega (arith, used-stored, c.free-free.ensures), λ _. refl)

pub append-requires-clause-unnamed : goal.append-requires-clause-unnamed
append-requires-clause-unnamed c =
    let sound : IsSound c.args.self.now = rw (← c.self.view_is) c.self.invariant.sound in
    rw c.remove_found.ensures.gone (NoneNamed-after _ _ sound.forms)

pub append-requires-clause-room : goal.append-requires-clause-room
append-requires-clause-room c =
    let s = c.self.inside.space in
    let fewer = cells-without (part_text s.neutral c.args.name.from c.args.name.to) (forms_in s.store) in
    rw c.remove_found.ensures.gone
    (rw (← c.self.view_is) (omega (arith, fewer, used-stored s c.self.invariant.forms.whole, c.free-free.ensures, c.if-free-need.false)))

pub returns-clause-full : goal.returns-clause-full
returns-clause-full c =
    let name_in = rw (← c.self.view_is) at c.requires.parts.name_part.within in
    let text_in = rw (← c.self.view_is) at c.requires.parts.text_part.within in
    rw (← c.self.view_is) (λ e. absurd (false≢true e), λ less. absurd (omega (arith, used-stored, c.free-free.ensures)))
