use Rattle.trac_functions.proofs.Imports.{◌∷◌, false, ap, ◌∙◌, refl, bytes_eq, Equal, argument, valued, meaning_of, text_of_cells, part_text, world, texts}
use Rattle.trac_functions.proofs.MadeValues.{valued-of, same-test, chosen}
use Rattle.trac_functions.proofs.comparing.equal.Goals as goal
use Rattle.trac_functions.proofs.comparing.equal.Goals.{then-equal, else-equal}

pub returns-clause-makes : goal.returns-clause-makes
unfolding meaning_of
returns-clause-makes c = λ name.
    let w = c.args.work.now in
    let ts = texts w c.args.arguments in
    let first = c.next-first.ensures.text in
    let second = c.next-second.ensures.text ∙ c.next-first.ensures.later 0 in
    let third = c.next-same.ensures.text ∙ c.next-second.ensures.later 0 ∙ c.next-first.ensures.later 1 in
    let fourth = c.next-other.ensures.text ∙ c.next-same.ensures.later 0 ∙ c.next-second.ensures.later 1 ∙ c.next-first.ensures.later 2 in
    let a = text_of_cells c.text.result.now in
    let b = text_of_cells c.text-2.result.now in
    let test = same-test c.equal.result a b c.equal.ensures
    ∙ ap (λ t. bytes_eq t b) (c.text.ensures.text ∙ first) ∙ ap (λ t. bytes_eq (argument ts 0) t) (c.text-2.ensures.text ∙ second) in
    let value = chosen c.equal.result (bytes_eq (argument ts 0) (argument ts 1)) (argument ts 2) (argument ts 3) (part_text w.neutral c.if-equal.value.from c.if-equal.value.to) test
    (λ is. elim c.if-equal.branch [ then-equal w ↦ rw w.value-is third | else-equal w ↦ absurd cc ])
    (λ is. elim c.if-equal.branch [ then-equal w ↦ absurd cc | else-equal w ↦ rw w.value-is fourth ]) in
    c.give.ensures.makes Equal (name ∷ ts) false c.args.arguments.scanned refl
    (valued-of Equal (name ∷ ts) w.forms w.forms _ false (λ meta input. ap (λ t. valued t (world w.forms meta input)) value) (λ _. refl))
