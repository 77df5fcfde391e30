use Rattle.trac_functions.proofs.Imports.{◌∙◌, refl, pos, CallCharacter, meaning_of, characters}
use Rattle.trac_functions.proofs.FormLemmas.{idle}
use Rattle.trac_functions.proofs.TakenParts.{makes-found}
use Rattle.trac_functions.proofs.form_parts.call_character.Goals as goal

pub returns-in-Some-clause-makes : goal.returns-in-Some-clause-makes
unfolding meaning_of
returns-in-Some-clause-makes c =
    makes-found CallCharacter (λ ts. characters (pos 1)) 1 (λ _ _ _. refl) (λ _ _ _. refl) c.args.work.now c.find.new.self c.take_character.new.work c.args.arguments c.take_character.result c.next-default.result
    (record { are = c.requires; same = c.in-Some.ensures.same; name = _; place = c.in-Some.form.0; at = c.in-Some.ensures.found; is_first = c.next-name.ensures.text })
    c.take_character.ensures.takes (c.next-default.ensures.text ∙ c.next-name.ensures.later 0)

pub returns-in-None-clause-makes : goal.returns-in-None-clause-makes
unfolding meaning_of
returns-in-None-clause-makes c = idle CallCharacter (λ _ _ _ none. rw none refl) (λ _ _ _. refl) c.args.work.now c.find.new.self c.args.arguments _ c.requires c.in-None.ensures.same c.in-None.ensures.found c.next-name.ensures.text
