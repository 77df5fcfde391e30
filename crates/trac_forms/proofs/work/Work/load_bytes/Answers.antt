use Rattle.trac_forms.proofs.Imports.{◌+◌, ◌≤◌, length, arith, length-map, All-map, Byte, bytes, IsByte, reserved-kept}
use Rattle.trac_space.specs.Lists as lists
use Rattle.trac_forms.proofs.Strings.{used-stored, before-active}
use Rattle.trac_forms.proofs.work.Work.load_bytes.Goals as goal

pub reserve-requires : goal.reserve-requires
reserve-requires c =
    let used = used-stored c.self.inside.space c.self.invariant.forms.whole in
    let fits = rw (← c.self.view_is) at c.requires in
    omega arith

pub invariant_of-self : goal.invariant_of-self
invariant_of-self c =
    let s = c.self.inside.space in
    let text = c.args.text.now in
    let used = used-stored s c.self.invariant.forms.whole in
    let fits = rw (← c.self.view_is) at c.requires in
    let room : lists.used s + length (bytes text) ≤ s.room = omega (arith, length-map text Byte) in
    before-active c.self.invariant _ c.reserve.new.self _ (bytes text) (reserved-kept (length text) s) (All-map IsByte Byte text (λ k d l. tt)) room c.reserve.ensures.same c.load_bytes.ensures

pub returns-clause-sound : goal.returns-clause-sound
returns-clause-sound c = (invariant_of-self c).sound
