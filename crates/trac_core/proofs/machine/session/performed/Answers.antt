use Rattle.trac_core.proofs.Imports.{◌∙◌, sym, memory_of}
use Rattle.trac_core.proofs.Performed.{performs-innermost, uncalled}
use Rattle.trac_core.proofs.machine.session.performed.Goals as goal

pub returns-in-None : goal.returns-in-None
returns-in-None c = λ meta. sym (uncalled (memory_of meta c.args.work.now) (c.in-None.ensures.call meta))

pub returns-in-Some : goal.returns-in-Some
returns-in-Some c = λ meta.
    let closed = c.in-Some.ensures.call in
    c.named_at.ensures.function ∙ performs-innermost c.args.work.now c.in-Some.place meta c.closed_call.ensures.sound closed.0 closed.1
