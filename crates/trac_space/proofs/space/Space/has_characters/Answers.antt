use Rattle.trac_space.proofs.Imports.{◌≡◌, ◌+◌, ◌-◌, arith}
use Rattle.trac_space.proofs.BlockChanges.{sizes}
use Rattle.trac_space.proofs.Characters.{part-bytes}
use Rattle.trac_space.proofs.space.Space.has_characters.Goals as goal

pub returns : goal.returns
returns c = λ t.
    let size = sizes c.self.invariant c.self.view_is in
    let n = c.args.b - c.args.a in
    let end : c.args.a + n ≡ c.args.b = omega arith in
    rw (← c.self.view_is, ← end) (part-bytes c.self.inside.cells.now c.self.inside.store c.args.a n (omega arith) (c.are_all_characters.ensures t))
