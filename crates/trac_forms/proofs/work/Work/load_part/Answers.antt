use Rattle.trac_forms.proofs.Imports.{◌+◌, ◌≤◌, length, slice_range, refl, inl, arith, length-between}
use Rattle.trac_space.specs.Lists as lists
use Rattle.trac_forms.proofs.Strings.{used-stored, before-active}
use Rattle.trac_forms.proofs.work.Work.load_part.Goals as goal

pub returns-then-size-free_beside_index-clause-loaded : goal.returns-then-size-free_beside_index-clause-loaded
returns-then-size-free_beside_index-clause-loaded c =
    let used = used-stored c.self.inside.space c.self.invariant.forms.whole in
    rw (← c.self.view_is) (λ e. omega arith, λ fits. refl)

pub invariant_of-self : goal.invariant_of-self
invariant_of-self c =
    let s = c.self.inside.space in
    let more = slice_range s.neutral c.args.a c.args.b in
    let part = rw (← c.self.view_is) at c.requires in
    let room : lists.used s + length more ≤ s.room = omega (arith, length-between s.neutral c.args.a c.args.b part.within) in
    before-active c.self.invariant s.index_area s _ more (inl refl) part.bytes room refl c.load_from_neutral.ensures

pub returns-then-size-free_beside_index-clause-sound : goal.returns-then-size-free_beside_index-clause-sound
returns-then-size-free_beside_index-clause-sound c = (invariant_of-self c).sound
