use Rattle.trac_functions.proofs.Imports.{◌∷◌, false, ap, ◌∙◌, refl, int_lt, Greater, argument, valued, meaning_of, number, text_of_cells, part_text, world, texts}
use Rattle.trac_functions.proofs.MadeValues.{valued-of, same-order, chosen}
use Rattle.trac_functions.proofs.comparing.greater.Goals as goal
use Rattle.trac_functions.proofs.comparing.greater.Goals.{then-greater, else-greater}

pub returns-clause-makes : goal.returns-clause-makes
unfolding meaning_of
returns-clause-makes c = λ name.
    let w = c.args.work.now in
    let ts = texts w c.args.arguments in
    let first = c.next-first.ensures.text in
    let second = c.next-second.ensures.text ∙ c.next-first.ensures.later 0 in
    let third = c.next-larger.ensures.text ∙ c.next-second.ensures.later 0 ∙ c.next-first.ensures.later 1 in
    let fourth = c.next-other.ensures.text ∙ c.next-larger.ensures.later 0 ∙ c.next-second.ensures.later 1 ∙ c.next-first.ensures.later 2 in
    let a = text_of_cells c.text.result.now in
    let b = text_of_cells c.text-2.result.now in
    let test = same-order c.greater.result (number b) (number a) c.greater.ensures
    ∙ ap (λ t. int_lt (number b) (number t)) (c.text.ensures.text ∙ first) ∙ ap (λ t. int_lt (number t) (number (argument ts 0))) (c.text-2.ensures.text ∙ second) in
    let value = chosen c.greater.result (int_lt (number (argument ts 1)) (number (argument ts 0))) (argument ts 2) (argument ts 3) (part_text w.neutral c.if-greater.value.from c.if-greater.value.to) test
    (λ is. elim c.if-greater.branch [ then-greater w ↦ rw w.value-is third | else-greater w ↦ absurd cc ])
    (λ is. elim c.if-greater.branch [ then-greater w ↦ absurd cc | else-greater w ↦ rw w.value-is fourth ]) in
    c.give.ensures.makes Greater (name ∷ ts) false c.args.arguments.scanned refl
    (valued-of Greater (name ∷ ts) w.forms w.forms _ false (λ meta input. ap (λ t. valued t (world w.forms meta input)) value) (λ _. refl))
