use Rattle.trac_space.proofs.Imports.{◌++◌, ◌∙◌, length, map, take, ap, arith, refl, length-map, Byte, seen, seen_lists}
use Rattle.trac_space.proofs.BlockChanges.{parts_of, sizes, shown, tagged, parts-load}
use Rattle.trac_space.proofs.Seen.{seen-more_active, seen-bytes}
use Rattle.trac_space.proofs.space.Space.load_bytes.Goals as goal

pub returns : goal.returns
returns c =
    let s = c.self.inside in
    let size = sizes c.self.invariant c.self.view_is in
    let text = c.write_bytes.new.cells in
    let n = length c.args.text.now in
    let long = ap length c.write_bytes.ensures ∙ length-map c.args.text.now Byte in
    let moved = parts-load c.self.invariant text _ n long (omega arith) refl in
    let written = ap (map seen) c.write_bytes.ensures ∙ seen-bytes c.args.text.now in
    rw (← c.self.view_is)
    (shown _ moved ∙ seen-more_active (parts_of s) s.active n text long
    ∙ ap (λ cells. record (seen_lists s.active (parts_of s)) { active = cells ++ take s.active (map seen (parts_of s).right) }) written)

-- neutral is as it was
pub invariant_of-self : goal.invariant_of-self
invariant_of-self c =
    let h = c.self.invariant in
    let size = sizes h c.self.view_is in
    let long = ap length c.write_bytes.ensures ∙ length-map c.args.text.now Byte in
    let moved = parts-load h c.write_bytes.new.cells _ (length c.args.text.now) long (omega arith) refl in
    tagged _ h moved refl (omega arith) (omega arith) h.calls h.linked h.no_comma
