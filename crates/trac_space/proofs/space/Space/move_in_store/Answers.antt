use Rattle.trac_space.proofs.Imports.{◌∙◌, arith, refl}
use Rattle.trac_space.proofs.BlockChanges.{sizes, shown, maps, tagged, parts-move_in_store}
use Rattle.trac_space.proofs.space.Space.move_in_store.Goals as goal

pub returns : goal.returns
returns c =
    let size = sizes c.self.invariant c.self.view_is in
    let moved = parts-move_in_store c.self.invariant c.args.a c.args.b c.args.to _ c.requires.order (omega arith) c.requires.before c.copy_cells.ensures.after in
    rw (← c.self.view_is) (shown _ moved ∙ simp maps)

-- neutral is as it was
pub invariant_of-self : goal.invariant_of-self
invariant_of-self c =
    let h = c.self.invariant in
    let size = sizes h c.self.view_is in
    let moved = parts-move_in_store h c.args.a c.args.b c.args.to _ c.requires.order (omega arith) c.requires.before c.copy_cells.ensures.after in
    tagged _ h moved refl (omega arith) (omega arith) h.calls h.linked h.no_comma
