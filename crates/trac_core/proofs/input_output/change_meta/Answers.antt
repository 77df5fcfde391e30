use Rattle.trac_core.proofs.Imports.{ap, sym, ◌∙◌, slice_get, refl, arguments_at, texts}
use Rattle.trac_core.proofs.PrintCalls.{answers-meta, argument-one, some-same}
use Rattle.trac_core.proofs.input_output.change_meta.Goals as goal

pub returns-in-Some-clause-answers : goal.returns-in-Some-clause-answers
returns-in-Some-clause-answers c = λ place source written has.
    let text = c.text.ensures.text ∙ c.next-part.ensures.text ∙ argument-one (arguments_at c.args.work.now.neutral place) (texts c.args.work.now c.args.arguments) has.rest in
    let first = sym c.in-Some.is ∙ c.first_character.ensures ∙ ap (λ t. slice_get t 0) text in
    answers-meta c.args.work.now place c.args.meta.now c.in-Some.first has.call
    (λ ch e. some-same (first ∙ e)) (λ e. (let f = first ∙ e in cc)) source written

pub returns-in_default-clause-answers : goal.returns-in_default-clause-answers
returns-in_default-clause-answers c = λ place source written has.
    let text = c.text.ensures.text ∙ c.next-part.ensures.text ∙ argument-one (arguments_at c.args.work.now.neutral place) (texts c.args.work.now c.args.arguments) has.rest in
    let first = c.first_character.ensures ∙ ap (λ t. slice_get t 0) text in
    answers-meta c.args.work.now place c.args.meta.now c.args.meta.now has.call
    (λ ch e. absurd (c.in_default.not-Some ch (first ∙ e))) (λ e. refl) source written
