use Rattle.trac_functions.proofs.Imports.{refl, arith}
use Rattle.trac_functions.proofs.ArgumentLemmas.{next-fits, taken-part, taken-text, taken-rest, taken-left, argument-later}
use Rattle.trac_functions.proofs.arguments.Arguments.next.Goals as goal

pub overflow_add-self : goal.overflow_add-self
overflow_add-self c =
    let fits = next-fits c.args.work.now c.args.self.now _ c.requires (omega arith) refl in
    let within = c.requires.within in
    let sound = c.requires.sound.fits in
    let bounded = c.requires.sound.bounded in
    omega (arith, c.end_of_next-to.ensures)

pub returns-clause-part : goal.returns-clause-part
returns-clause-part c =
    rw c.end_of_next-to.ensures (taken-part c.args.work.now c.args.self.now c.requires (omega arith))

pub returns-clause-text : goal.returns-clause-text
returns-clause-text c =
    rw c.end_of_next-to.ensures (taken-text c.args.work.now c.args.self.now c.requires (omega arith))

pub returns-clause-rest : goal.returns-clause-rest
returns-clause-rest c =
    rw c.end_of_next-to.ensures (taken-rest c.args.work.now c.args.self.now c.requires (omega arith))

pub returns-clause-later : goal.returns-clause-later
returns-clause-later c = λ k.
    argument-later _ _
    (rw c.end_of_next-to.ensures (taken-rest c.args.work.now c.args.self.now c.requires (omega arith))) k

pub returns-clause-left : goal.returns-clause-left
returns-clause-left c =
    taken-left c.args.work.now c.args.self.now _ c.requires (omega arith)
    (rw c.end_of_next-to.ensures refl) refl
