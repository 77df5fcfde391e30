use Rattle.trac_space.proofs.Imports.{◌≡◌, ◌-◌, ◌∙◌, length, take, drop, replicate, ap, arith, refl, length-take, length-drop, length-replicate, Byte}
use Rattle.trac_space.proofs.BlockChanges.{parts_of, sizes, shown, tagged, parts-put_last}
use Rattle.trac_space.proofs.Seen.{seen-other_index_area, seen-blank}
use Rattle.trac_space.proofs.space.Space.blank_index_area.Goals as goal

pub returns : goal.returns
returns c =
    let s = c.self.inside in
    let size = sizes c.self.invariant c.self.view_is in
    let k = length s.cells.now - s.end in
    let new : c.blank.new.cells ≡ replicate k (Byte 0) =
    c.blank.ensures ∙ ap (λ n. replicate n (Byte 0)) (omega (arith, length-take k (drop s.end s.cells.now), length-drop s.end s.cells.now)) in
    let moved = parts-put_last c.self.invariant c.blank.new.cells _ (omega (arith, ap length new, length-replicate k (Byte 0))) refl in
    let other = seen-other_index_area (parts_of s) s.active c.blank.new.cells (omega arith) in
    rw (← c.self.view_is, rw (← c.self.view_is) at size.index_area) (shown _ moved ∙ other ∙ rw (new, seen-blank k) refl)

-- neutral is as it was
pub invariant_of-self : goal.invariant_of-self
invariant_of-self c =
    let s = c.self.inside in
    let h = c.self.invariant in
    let size = sizes h c.self.view_is in
    let moved = parts-put_last h c.blank.new.cells _ (omega (arith, ap length c.blank.ensures, length-replicate (length (take (length s.cells.now - s.end) (drop s.end s.cells.now))) (Byte 0), length-take (length s.cells.now - s.end) (drop s.end s.cells.now), length-drop s.end s.cells.now)) refl in
    tagged _ h moved refl (omega arith) (omega arith) h.calls h.linked h.no_comma
