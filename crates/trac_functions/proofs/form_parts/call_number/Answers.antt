use Rattle.trac_functions.proofs.Imports.{sym, ap, ◌∙◌, refl, subst, arith, length, Option, CallNumber, argument, meaning_of, Part, TakesPart, characters, number, text_of_cells, Contents, part_text, form_at, IsSound}
use Rattle.trac_functions.proofs.FormLemmas.{idle}
use Rattle.trac_functions.proofs.TakenParts.{makes-found, characters-counted}
use Rattle.trac_functions.proofs.form_parts.call_number.Goals as goal

pub returns-in-Some-clause-makes : goal.returns-in-Some-clause-makes
unfolding meaning_of
returns-in-Some-clause-makes c =
    let number_is = c.text.ensures.text ∙ c.next-number.ensures.text ∙ c.next-name.ensures.later 0 in
    let sound = subst IsSound (sym c.in-Some.ensures.same) c.requires.sound in
    let within = ap (λ (v : Contents). length v.forms) c.in-Some.ensures.same in
    let at = c.in-Some.ensures.found.within in
    let counts = characters-counted c.find.new.self c.in-Some.form.0 (text_of_cells c.text.result.now) c.count_of-count.result.negative c.count_of-count.result.size sound (omega arith) c.count_of-count.ensures.negative c.count_of-count.ensures.size in
    let takes = subst (λ (o : Option Part). TakesPart o (part_text c.find.new.self.neutral c.next-default.result.from c.next-default.result.to) c.in-Some.form.0 c.find.new.self c.take_characters.result c.take_characters.new.work)
    (counts ∙ ap (λ t. characters (number t) (form_at c.find.new.self.forms c.in-Some.form.0)) number_is) c.take_characters.ensures.takes in
    makes-found CallNumber (λ ts. characters (number (argument ts 1))) 2 (λ _ _ _. refl) (λ _ _ _. refl) c.args.work.now c.find.new.self c.take_characters.new.work c.args.arguments c.take_characters.result c.next-default.result
    (record { are = c.requires; same = c.in-Some.ensures.same; name = _; place = c.in-Some.form.0; at = c.in-Some.ensures.found; is_first = c.next-name.ensures.text })
    takes (c.next-default.ensures.text ∙ c.next-number.ensures.later 0 ∙ c.next-name.ensures.later 1)

pub returns-in-None-clause-makes : goal.returns-in-None-clause-makes
unfolding meaning_of
returns-in-None-clause-makes c = idle CallNumber (λ _ _ _ none. rw none refl) (λ _ _ _. refl) c.args.work.now c.find.new.self c.args.arguments _ c.requires c.in-None.ensures.same c.in-None.ensures.found c.next-name.ensures.text
