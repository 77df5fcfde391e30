use Rattle.trac_core.proofs.Imports.{◌++◌, sym, ap, ◌∙◌, subst, append-nil, Text, show_form, Contents, form_at, part_text, Prints, display}
use Rattle.trac_forms.proofs.DistinctForms.{form_named-at, form_named-none}
use Rattle.trac_core.proofs.FormDisplay.{display-some, on_err}
use Rattle.trac_core.proofs.display.show_named.Goals as goal

pub returns-in-Some-clause-prints : goal.returns-in-Some-clause-prints
returns-in-Some-clause-prints g c = λ told.
    let shown = ap show_form c.stored.ensures ∙ ap (λ (w : Contents). show_form (form_at w.forms c.in-Some.form.0)) c.find.ensures.same ∙ sym (ap display (form_named-at _ _ _ c.requires.sound.forms c.in-Some.ensures.found)) in
    let P : Text → Type 0 = λ t. Prints c.show_and_flush.result (g.O.Sink.written c.args.sink.now) t (g.O.Sink.written c.show_and_flush.new.sink) in
    subst P shown (c.show_and_flush.ensures.prints told)

pub returns-in-Some-clause-some : goal.returns-in-Some-clause-some
returns-in-Some-clause-some g c =
    on_err c.show_and_flush.result _ (λ none. display-some (form_at c.args.work.now.forms c.in-Some.form.0) (sym (ap display (form_named-at _ _ _ c.requires.sound.forms c.in-Some.ensures.found)) ∙ none))

pub returns-in-None-clause-prints : goal.returns-in-None-clause-prints
returns-in-None-clause-prints g c = λ told.
    let written = g.O.Sink.written c.args.sink.now in
    sym (ap (λ o. written ++ display o) (form_named-none (part_text c.args.work.now.neutral c.args.name.from c.args.name.to) c.args.work.now.forms c.in-None.ensures.found) ∙ append-nil written)

pub returns-in-Some-clause-untouched : goal.returns-in-Some-clause-untouched
returns-in-Some-clause-untouched g c = λ none.
    absurd (display-some (form_at c.args.work.now.forms c.in-Some.form.0) (sym (ap display (form_named-at _ _ _ c.requires.sound.forms c.in-Some.ensures.found)) ∙ none))

pub returns-in-None-clause-flushed : goal.returns-in-None-clause-flushed
returns-in-None-clause-flushed g c = λ some.
    absurd (some (ap display (form_named-none (part_text c.args.work.now.neutral c.args.name.from c.args.name.to) c.args.work.now.forms c.in-None.ensures.found)))
