use Rattle.trac_core.proofs.Imports.{sym, ◌∙◌, scene}
use Rattle.trac_core.proofs.Performing.{answers-nothing}
use Rattle.trac_core.proofs.call.nothing.Goals as goal

pub returns-clause-answers : goal.returns-clause-answers
returns-clause-answers c = λ meta source written.
    let n = c.requires.named in
    answers-nothing (scene c.args.work.now meta source written) c.args.call.place (record { sound = n.sound; innermost = n.innermost; names = sym n.names ∙ c.requires.none })
