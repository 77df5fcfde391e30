use Rattle.trac_forms.proofs.Imports.{take, true, arith, length-take-le, reserved-kept}
use Rattle.trac_forms.proofs.Strings.{used-stored, text-appended}
use Rattle.trac_forms.proofs.work.WorkNeutral.push_before.Goals as goal

pub invariant_of-self : goal.invariant_of-self
invariant_of-self c =
    let s = c.self.inside in
    let n = c.push_before.result in
    let size = length-take-le n c.args.text.now c.push_before.ensures.within in
    text-appended c.self.invariant _ c.push_before.new.self (take n c.args.text.now) true (reserved-kept n s.space) (λ e. omega (arith, size, c.push_before.ensures.fits)) c.push_before.ensures.last tt

pub returns-clause-stops : goal.returns-clause-stops
returns-clause-stops c =
    rw (← used-stored c.push_before.new.self (invariant_of-self c).forms.whole) c.push_before.ensures.stops

pub returns-clause-sound : goal.returns-clause-sound
returns-clause-sound c = (invariant_of-self c).sound
