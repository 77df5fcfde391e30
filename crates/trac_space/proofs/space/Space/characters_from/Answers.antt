use Rattle.trac_space.proofs.Imports.{arith}
use Rattle.trac_space.proofs.BlockChanges.{sizes}
use Rattle.trac_space.proofs.Characters.{part-bytes, part-stop}
use Rattle.trac_space.proofs.space.Space.characters_from.Goals as goal

pub returns-clause-bytes : goal.returns-clause-bytes
returns-clause-bytes c =
    let ran = c.characters_from.ensures in
    let size = sizes c.self.invariant c.self.view_is in
    rw (← c.self.view_is) (part-bytes c.self.inside.cells.now c.self.inside.store c.args.a c.characters_from.result (omega (arith, ran.few)) ran.bytes)

pub returns-clause-stop : goal.returns-clause-stop
returns-clause-stop c = λ less.
    let size = sizes c.self.invariant c.self.view_is in
    let stop = c.characters_from.ensures.stop (omega (arith, less)) in
    rw (← c.self.view_is) (part-stop c.self.inside.cells.now c.self.inside.store c.args.a c.characters_from.result (omega (arith, less)) (omega (arith, less)) (omega arith) stop)
