use Rattle.trac_space.proofs.Imports.{◌∙◌, arith}
use Rattle.trac_space.proofs.BlockChanges.{sizes, shown, parts-drop_active, parts_of}
use Rattle.trac_space.proofs.Seen.{seen-drop_active}
use Rattle.trac_space.proofs.space.Space.drop_active.Goals as goal

pub returns : goal.returns
returns c =
    let size = sizes c.self.invariant c.self.view_is in
    let moved = parts-drop_active c.self.invariant c.args.n (omega arith) in
    rw (← c.self.view_is) (shown _ moved ∙ seen-drop_active (parts_of c.self.inside) c.self.inside.active c.args.n (omega arith))
