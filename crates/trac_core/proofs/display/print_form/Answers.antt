use Rattle.trac_core.proofs.Imports.{sym, ap, ◌∙◌, subst, length, form_named, Contents, used, Null, arguments_at, texts, Stands, display}
use Rattle.trac_core.proofs.Performing.{stands-null}
use Rattle.trac_core.proofs.PrintCalls.{argument-one}
use Rattle.trac_core.proofs.FormDisplay.{answers-display, answers-display-broken}
use Rattle.trac_core.proofs.display.print_form.Goals as goal

pub returns-in-Ok-clause-answers : goal.returns-in-Ok-clause-answers
returns-in-Ok-clause-answers g c = λ told place meta source has.
    let w = c.args.work.now in
    let name = c.next-name.ensures.text ∙ argument-one (arguments_at w.neutral place) (texts w c.args.arguments) has.rest in
    rw (c.in-Ok.ensures.prints told, name, c.in-Ok.ensures.same)
    (answers-display w place has.call meta source (g.O.Sink.written c.args.sink.now))

pub returns-in-Ok-clause-stands : goal.returns-in-Ok-clause-stands
returns-in-Ok-clause-stands g c =
    let w = c.args.work.now in
    subst (λ (new : Contents). Stands (Null 0) (used w) (length w.neutral) new) (sym c.in-Ok.ensures.same) (stands-null w c.requires.arguments.sound)

pub returns-in-Err-clause-answers : goal.returns-in-Err-clause-answers
returns-in-Err-clause-answers g c = λ told place meta source has.
    let w = c.args.work.now in
    let name = c.next-name.ensures.text ∙ argument-one (arguments_at w.neutral place) (texts w c.args.arguments) has.rest in
    let shown = ap (λ t. display (form_named t w.forms)) name in
    let broke = c.in-Err.ensures.prints told in
    rw (broke.1.1.1, c.in-Err.ensures.same)
    (answers-display-broken w place has.call meta source (g.O.Sink.written c.args.sink.now) broke.0 broke.1.0
    (sym shown ∙ broke.1.1.0) (λ none. c.in-Err.ensures.some (broke.1.1.0 ∙ none)))
