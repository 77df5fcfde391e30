use Rattle.trac_space.proofs.Imports.{◌∙◌, map, ap, arith, seen}
use Rattle.trac_space.proofs.BlockChanges.{sizes, maps, active-part}
use Rattle.trac_space.proofs.space.Space.active_part.Goals as goal

pub returns : goal.returns
returns c =
    let size = sizes c.self.invariant c.self.view_is in
    let part = active-part c.self.invariant c.args.a c.args.b c.requires.order (omega arith) in
    rw (← c.self.view_is) (ap (map seen) part ∙ simp maps)
