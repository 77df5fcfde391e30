use Rattle.trac_functions.proofs.Imports.{◌≡◌, ◌∷◌, ◌∙◌, [], set, refl, sym, ap, subst, Form, CallRestore, argument, meaning_of, on_form, silent, with_form, Contents, form_at, IsNamedAt, form_named-at, changed-at, Arguments, texts, world, Performs, AtEnd}
use Rattle.trac_functions.proofs.FormLemmas.{idle, null-value}
use Rattle.trac_functions.proofs.TakenParts.{FindsForm}
use Rattle.trac_functions.proofs.form_parts.call_restore.Goals as goal

-- the pointer of the form that was found is at the start again
restores : (old found new : Contents) (a : Arguments) (form : FindsForm old found a) → new ≡ record found { forms = set found.forms form.place (record (form_at found.forms form.place) { pointer = 0 }) } → Performs CallRestore old a AtEnd new
unfolding meaning_of
restores old found new a form changed_is = λ title.
    let first = argument (texts old a) 0 in
    let at = subst (λ n. IsNamedAt old.forms n form.place) form.is_first form.at in
    let start : Form → Form = λ form. record form { pointer = 0 } in
    let new_is : new ≡ record old { forms = set old.forms form.place (start (form_at old.forms form.place)) } = changed_is ∙ ap (λ (w : Contents). record w { forms = set w.forms form.place (start (form_at w.forms form.place)) }) form.same in
    let forms = ap (λ (w : Contents). w.forms) new_is in (
      [],
      null-value CallRestore (title ∷ texts old a) old new form.are.sound
          (λ meta input. ap (λ o. on_form o (λ form. silent (with_form first start (world old.forms meta input))) (world old.forms meta input)) (form_named-at first old.forms form.place form.are.sound.forms at)
          ∙ ap (λ fs. silent (world fs meta input)) (changed-at first start old.forms form.place form.are.sound.forms at ∙ sym forms))
          (λ _. refl) (new_is ∙ ap (λ fs. record old { forms = fs }) (sym forms)),
    )

pub returns-in-Some-clause-makes : goal.returns-in-Some-clause-makes
unfolding meaning_of
returns-in-Some-clause-makes c =
    restores c.args.work.now c.find.new.self c.set_pointer.new.self c.args.arguments
    (record { are = c.requires; same = c.in-Some.ensures.same; name = _; place = c.in-Some.form.0; at = c.in-Some.ensures.found; is_first = c.next-name.ensures.text })
    c.set_pointer.ensures.moved

pub returns-in_default-clause-makes : goal.returns-in_default-clause-makes
unfolding meaning_of
returns-in_default-clause-makes c = idle CallRestore (λ _ _ _ none. rw none refl) (λ _ _ _. refl) c.args.work.now c.find.new.self c.args.arguments _ c.requires c.in_default.ensures.same c.in_default.ensures.found c.next-name.ensures.text
