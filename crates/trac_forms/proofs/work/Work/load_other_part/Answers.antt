use Rattle.trac_forms.proofs.Imports.{◌+◌, ◌-◌, ◌≤◌, ◌++◌, length, slice_range, refl, ap, ◌∙◌, arith, length-between, Lists, reserved-kept}
use Rattle.trac_space.specs.Lists as lists
use Rattle.trac_forms.proofs.Strings.{used-stored, before-active}
use Rattle.trac_forms.proofs.work.Work.load_other_part.Goals as goal

pub returns-then-free-b-clause-loaded : goal.returns-then-free-b-clause-loaded
returns-then-free-b-clause-loaded c =
    let used = used-stored c.self.inside.space c.self.invariant.forms.whole in
    rw (← c.self.view_is) (λ e. cc, λ fits. absurd (omega arith))

pub invariant_of-self : goal.invariant_of-self
invariant_of-self c =
    let s = c.self.inside.space in
    let a = c.args.a in
    let b = c.args.b in
    let more = slice_range s.neutral a b in
    let part = rw (← c.self.view_is) at c.requires in
    let used = used-stored s c.self.invariant.forms.whole in
    let mid = c.reserve.new.self in
    let room : lists.used s + length more ≤ s.room = omega (arith, length-between s.neutral a b part.within) in
    before-active c.self.invariant _ mid _ more (reserved-kept (b - a) s) part.bytes room c.reserve.ensures.same
    (c.load_from_neutral.ensures ∙ ap (λ (l : Lists). record mid { active = slice_range l.neutral a b ++ mid.active }) c.reserve.ensures.same)

pub returns-clause-loaded : goal.returns-clause-loaded
returns-clause-loaded c =
    let used = used-stored c.self.inside.space c.self.invariant.forms.whole in
    rw (← c.self.view_is) (λ e. omega arith, λ fits. refl)

pub returns-clause-sound : goal.returns-clause-sound
returns-clause-sound c = (invariant_of-self c).sound
