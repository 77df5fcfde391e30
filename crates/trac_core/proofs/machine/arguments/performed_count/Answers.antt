use Rattle.trac_core.proofs.Imports.{◌∙◌, ap, length, sym}
use Rattle.trac_core.proofs.Performed.{texts-innermost, uncalled-texts}
use Rattle.trac_functions.specs.Flat.{memory_of}
use Rattle.trac_core.proofs.machine.arguments.performed_count.Goals as goal

pub returns-in-None : goal.returns-in-None
returns-in-None c = λ meta. sym (ap length (uncalled-texts (memory_of meta c.args.work.now) (c.in-None.ensures.call meta)))

pub returns-in-Some : goal.returns-in-Some
returns-in-Some c = λ meta.
    let closed = c.in-Some.ensures.call in
    c.arguments_left.ensures ∙ ap length (c.arguments_at.ensures.texts ∙ sym (texts-innermost c.args.work.now c.in-Some.place meta closed.0 closed.1))
