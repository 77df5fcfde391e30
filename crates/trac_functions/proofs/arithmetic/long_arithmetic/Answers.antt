use Rattle.trac_functions.proofs.Imports.{◌≡◌, ◌∷◌, ◌+◌, ◌++◌, false, true, Some, None, sym, ap, ◌∙◌, refl, arith, signed_decimal, Arithmetic, number, prefix, if_in_range, argument, result_or, forced, valued, meaning_of, number_in, part_text, world}
use Rattle.trac_language.specs.Number.{arith as result_of_arith}
use Rattle.trac_functions.proofs.MadeValues.{valued-of}
use Rattle.trac_functions.proofs.Ranges.{arith-passed, ranged}
use Rattle.trac_functions.proofs.Fronts.{prefix-front, inside, front-part, front-text}
use Rattle.trac_functions.proofs.arithmetic.long_arithmetic.Goals as goal

pub overflow_add-prefix : goal.overflow_add-prefix
overflow_add-prefix c =
    let fits = inside _ _ _ _ c.requires.first prefix prefix-front _ c.text.ensures.text c.tail_number-left.ensures.start in
    let within = c.requires.first.within in
    let sound = c.requires.sound.fits in
    let bounded = c.requires.sound.bounded in
    omega arith

pub result_of-requires-clause-left : goal.result_of-requires-clause-left
result_of-requires-clause-left c =
    ranged _ (number_in c.text.result.now) c.tail_number-left.ensures.value

pub give_number-requires : goal.give_number-requires
give_number-requires c =
    record { prefix = front-part _ _ _ _ c.requires.first prefix prefix-front _ c.text.ensures.text c.tail_number-left.ensures.start }

pub returns-in-Some-clause-makes : goal.returns-in-Some-clause-makes
unfolding meaning_of
returns-in-Some-clause-makes c = λ name ts first-is second-is third-is.
    let w = c.args.work.now in
    let operation = c.args.operation in
    let first = c.args.first in
    let left = c.text.ensures.text ∙ first-is in
    let right = c.text-2.ensures.text ∙ second-is in
    let before : part_text w.neutral first.from (first.from + c.tail_number-left.result.start) ≡ prefix (argument ts 0) =
    front-text _ _ _ _ c.requires.first prefix prefix-front _ c.text.ensures.text c.tail_number-left.ensures.start ∙ ap prefix first-is in
    let result : Some c.in-Some.number ≡ result_of_arith operation (number (argument ts 0)) (number (argument ts 1)) =
    c.in-Some.ensures (number (argument ts 0)) (number (argument ts 1))
    (c.tail_number-left.ensures.value ∙ ap (λ t. if_in_range (Some (number t))) left)
    (c.tail_number-right.ensures.value ∙ ap (λ t. if_in_range (Some (number t))) right) in
    let kept = arith-passed operation (number (argument ts 0)) (number (argument ts 1)) c.in-Some.number (sym result) in
    c.give_number.ensures.makes (Arithmetic operation) (name ∷ ts)
    (valued-of (Arithmetic operation) (name ∷ ts) w.forms w.forms _ false
    (λ meta input. ap (λ r. result_or r (prefix (argument ts 0)) (argument ts 2) (world w.forms meta input)) (sym result)
    ∙ ap (λ p. result_or (Some c.in-Some.number) p (argument ts 2) (world w.forms meta input)) (sym before)
    ∙ ap (λ n. valued (part_text w.neutral first.from (first.from + c.tail_number-left.result.start) ++ signed_decimal n) (world w.forms meta input)) (sym kept))
    (λ _. refl))

pub returns-in-None-clause-makes : goal.returns-in-None-clause-makes
unfolding meaning_of
returns-in-None-clause-makes c = λ name ts first-is second-is third-is.
    let w = c.args.work.now in
    let operation = c.args.operation in
    let left = c.text.ensures.text ∙ first-is in
    let right = c.text-2.ensures.text ∙ second-is in
    let result : None ≡ result_of_arith operation (number (argument ts 0)) (number (argument ts 1)) =
    c.in-None.ensures (number (argument ts 0)) (number (argument ts 1))
    (c.tail_number-left.ensures.value ∙ ap (λ t. if_in_range (Some (number t))) left)
    (c.tail_number-right.ensures.value ∙ ap (λ t. if_in_range (Some (number t))) right) in
    c.give.ensures.makes (Arithmetic operation) (name ∷ ts) true c.args.scanned refl
    (valued-of (Arithmetic operation) (name ∷ ts) w.forms w.forms _ true
    (λ meta input. ap (λ r. result_or r (prefix (argument ts 0)) (argument ts 2) (world w.forms meta input)) (sym result)
    ∙ ap (λ t. forced t (world w.forms meta input)) (sym third-is))
    (λ _. refl))
