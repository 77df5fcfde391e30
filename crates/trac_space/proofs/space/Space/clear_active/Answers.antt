use Rattle.trac_space.proofs.Imports.{◌≡◌, ◌-◌, ◌∙◌, arith}
use Rattle.trac_space.proofs.BlockChanges.{parts_of, shown, parts-drop_active}
use Rattle.trac_space.proofs.Seen.{seen-no_active}
use Rattle.trac_space.proofs.space.Space.clear_active.Goals as goal

pub returns : goal.returns
returns c =
    let s = c.self.inside in
    let none : s.active - s.active ≡ 0 = omega arith in
    let moved = rw none at (parts-drop_active c.self.invariant s.active (omega arith)) in
    rw (← c.self.view_is) (shown 0 moved ∙ seen-no_active (parts_of s) s.active)
