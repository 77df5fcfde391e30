use Rattle.trac_core.proofs.Imports.{length, ap, sym, ◌∙◌, show_form, Contents, form_at, part_text, display}
use Rattle.trac_forms.proofs.DistinctForms.{form_named-at, form_named-none}
use Rattle.trac_core.proofs.machine.printing.named_len.Goals as goal

pub returns-in-Some-clause-length : goal.returns-in-Some-clause-length
returns-in-Some-clause-length c =
    let w = c.args.work.now in
    let name = part_text w.neutral c.args.name.from c.args.name.to in
    let k = c.in-Some.form.0 in
    c.display_len.ensures ∙ ap (λ form. length (show_form form)) c.stored.ensures
    ∙ ap (λ (w : Contents). length (show_form (form_at w.forms k))) c.find.ensures.same
    ∙ sym (ap (λ o. length (display o)) (form_named-at name w.forms k c.requires.sound.forms c.in-Some.ensures.found))

pub returns-in-None-clause-length : goal.returns-in-None-clause-length
returns-in-None-clause-length c =
    let w = c.args.work.now in
    let name = part_text w.neutral c.args.name.from c.args.name.to in
    sym (ap (λ o. length (display o)) (form_named-none name w.forms c.in-None.ensures.found))
