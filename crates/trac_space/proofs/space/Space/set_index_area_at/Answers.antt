use Rattle.trac_space.proofs.Imports.{◌∙◌, arith, refl}
use Rattle.trac_space.proofs.BlockChanges.{sizes, shown, tagged, parts-write_index_area, parts_of}
use Rattle.trac_space.proofs.Seen.{seen-write_index_area}
use Rattle.trac_space.proofs.space.Space.set_index_area_at.Goals as goal

pub returns : goal.returns
returns c =
    let size = sizes c.self.invariant c.self.view_is in
    let moved = parts-write_index_area c.self.invariant c.args.i c.args.cell (omega arith) in
    rw (← c.self.view_is) (shown _ moved ∙ seen-write_index_area (parts_of c.self.inside) c.self.inside.active c.args.i c.args.cell)

-- neutral is as it was
pub invariant_of-self : goal.invariant_of-self
invariant_of-self c =
    let h = c.self.invariant in
    let size = sizes h c.self.view_is in
    let moved = parts-write_index_area h c.args.i c.args.cell (omega arith) in
    tagged _ h moved refl (omega arith) (omega arith) h.calls h.linked h.no_comma
