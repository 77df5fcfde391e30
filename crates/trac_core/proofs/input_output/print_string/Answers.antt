use Rattle.std.proofs.lemmas.Grind.{common_steps}
use Rattle.trac_core.proofs.Imports.{arith, sym, ◌∙◌, arguments_at, texts}
use Rattle.trac_core.proofs.Performing.{stands-null}
use Rattle.trac_core.proofs.PrintCalls.{answers-print, answers-print-broken, argument-one}
use Rattle.trac_core.proofs.input_output.print_string.Goals as goal

pub returns-in-Ok-clause-answers : goal.returns-in-Ok-clause-answers
returns-in-Ok-clause-answers g c = λ told place meta source has.
    let text = c.new-printed.ensures ∙ c.text.ensures.text ∙ c.next-part.ensures.text ∙ argument-one (arguments_at c.args.work.now.neutral place) (texts c.args.work.now c.args.arguments) has.rest in
    rw (c.in-Ok.ensures.writes told, text) (answers-print c.args.work.now place has.call meta source (g.O.Sink.written c.args.sink.now))

pub returns-in-Ok-clause-stands : goal.returns-in-Ok-clause-stands
returns-in-Ok-clause-stands g c = stands-null c.args.work.now c.requires.arguments.sound

pub returns-in-Err-clause-answers : goal.returns-in-Err-clause-answers
returns-in-Err-clause-answers g c = λ told place meta source has.
    let text = c.new-printed.ensures ∙ c.text.ensures.text ∙ c.next-part.ensures.text ∙ argument-one (arguments_at c.args.work.now.neutral place) (texts c.args.work.now c.args.arguments) has.rest in
    let broke = c.in-Err.ensures.writes told in
    rw broke.1.1.1
    (answers-print-broken c.args.work.now place has.call meta source (g.O.Sink.written c.args.sink.now) broke.0 broke.1.0
    (sym text ∙ broke.1.1.0) (λ none. c.in-Err.ensures.some (broke.1.1.0 ∙ none)))

pub returns-in-Ok-clause-sink : goal.returns-in-Ok-clause-sink
returns-in-Ok-clause-sink g c = grind (arith, common_steps)

pub returns-in-Err-clause-sink : goal.returns-in-Err-clause-sink
returns-in-Err-clause-sink g c = grind (arith, common_steps)
