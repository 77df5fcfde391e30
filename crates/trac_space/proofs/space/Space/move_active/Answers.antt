use Rattle.trac_space.proofs.Imports.{◌-◌, ◌∙◌, length, drop, sym, ap, arith, refl, seen_lists}
use Rattle.trac_space.proofs.BlockChanges.{parts_of, sizes, shown, tagged, parts-move_active}
use Rattle.trac_space.proofs.Seen.{seen-other_index_area}
use Rattle.trac_space.proofs.space.Space.move_active.Goals as goal

pub returns-clause-same : goal.returns-clause-same
returns-clause-same c =
    let s = c.self.inside in
    let size = sizes c.self.invariant c.self.view_is in
    let p = parts_of s in
    let room = c.room.ensures.value ∙ size.room in
    let moved = parts-move_active c.self.invariant c.args.n _ (omega arith) (rw room at c.copy_cells.ensures.after) in
    let other = seen-other_index_area p s.active (drop (length s.cells.now - c.args.n) s.cells.now) (omega arith) in
    let same = shown _ moved ∙ other in
    rw (← c.self.view_is, room) (same ∙ ap (λ cells. record (seen_lists s.active p) { index_area = cells }) (sym (ap (λ l. l.index_area) same)))

-- neutral is as it was
pub invariant_of-self : goal.invariant_of-self
invariant_of-self c =
    let h = c.self.invariant in
    let size = sizes h c.self.view_is in
    let room = c.room.ensures.value ∙ size.room in
    let moved = parts-move_active h c.args.n _ (omega arith) (rw room at c.copy_cells.ensures.after) in
    rw room (tagged _ h moved refl (omega arith) (omega arith) h.calls h.linked h.no_comma)
