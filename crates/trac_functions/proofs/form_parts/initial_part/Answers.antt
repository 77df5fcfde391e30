use Rattle.trac_functions.proofs.Imports.{ap, ◌∙◌, refl, subst, InitialPart, argument, meaning_of, initial_part, Contents, part_text, TakesOrDefault}
use Rattle.trac_functions.proofs.FormLemmas.{idle}
use Rattle.trac_functions.proofs.TakenParts.{makes-found}
use Rattle.trac_functions.proofs.form_parts.initial_part.Goals as goal

pub returns-in-Some-clause-makes : goal.returns-in-Some-clause-makes
unfolding meaning_of
returns-in-Some-clause-makes c =
    let sought = ap (λ (v : Contents). part_text v.neutral c.next-sought.result.from c.next-sought.result.to) c.in-Some.ensures.same ∙ c.next-sought.ensures.text ∙ c.next-name.ensures.later 0 in
    let takes = subst (λ t. TakesOrDefault (initial_part t) c.in-Some.form.0 c.next-default.result c.find.new.self c.take_initial.result c.take_initial.new.work) sought c.take_initial.ensures.takes in
    makes-found InitialPart (λ ts. initial_part (argument ts 1)) 2 (λ _ _ _. refl) (λ _ _ _. refl) c.args.work.now c.find.new.self c.take_initial.new.work c.args.arguments c.take_initial.result c.next-default.result
    (record { are = c.requires; same = c.in-Some.ensures.same; name = _; place = c.in-Some.form.0; at = c.in-Some.ensures.found; is_first = c.next-name.ensures.text })
    takes (c.next-default.ensures.text ∙ c.next-sought.ensures.later 0 ∙ c.next-name.ensures.later 1)

pub returns-in-None-clause-makes : goal.returns-in-None-clause-makes
unfolding meaning_of
returns-in-None-clause-makes c = idle InitialPart (λ _ _ _ none. rw none refl) (λ _ _ _. refl) c.args.work.now c.find.new.self c.args.arguments _ c.requires c.in-None.ensures.same c.in-None.ensures.found c.next-name.ensures.text
