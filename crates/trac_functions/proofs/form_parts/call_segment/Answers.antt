use Rattle.trac_functions.proofs.Imports.{◌∙◌, refl, CallSegment, meaning_of, next_segment}
use Rattle.trac_functions.proofs.FormLemmas.{idle}
use Rattle.trac_functions.proofs.TakenParts.{makes-found}
use Rattle.trac_functions.proofs.form_parts.call_segment.Goals as goal

pub returns-in-Some-clause-makes : goal.returns-in-Some-clause-makes
unfolding meaning_of
returns-in-Some-clause-makes c =
    makes-found CallSegment (λ ts. next_segment) 1 (λ _ _ _. refl) (λ _ _ _. refl) c.args.work.now c.find.new.self c.take_segment.new.work c.args.arguments c.take_segment.result c.next-default.result
    (record { are = c.requires; same = c.in-Some.ensures.same; name = _; place = c.in-Some.form.0; at = c.in-Some.ensures.found; is_first = c.next-name.ensures.text })
    c.take_segment.ensures.takes (c.next-default.ensures.text ∙ c.next-name.ensures.later 0)

pub returns-in-None-clause-makes : goal.returns-in-None-clause-makes
unfolding meaning_of
returns-in-None-clause-makes c = idle CallSegment (λ _ _ _ none. rw none refl) (λ _ _ _. refl) c.args.work.now c.find.new.self c.args.arguments _ c.requires c.in-None.ensures.same c.in-None.ensures.found c.next-name.ensures.text
