use Rattle.trac_functions.proofs.Imports.{◌≡◌, ◌∷◌, ◌+◌, ◌++◌, false, Some, sym, ap, ◌∙◌, refl, arith, signed_decimal, Arithmetic, number, prefix, argument, result_or, valued, meaning_of, part_text, world, texts}
use Rattle.std.proofs.Common.{rules, FitsSigned, w64}
use Rattle.trac_functions.proofs.Imports.{text_of_cells, to_z-of_z}
use Rattle.trac_language.specs.Number.{arith as result_of_arith}
use Rattle.trac_functions.proofs.MadeValues.{valued-of}
use Rattle.trac_functions.proofs.Fronts.{prefix-front, inside, front-part, front-text}
use Rattle.trac_functions.proofs.arithmetic.arithmetic.Goals as goal

pub overflow_add-prefix : goal.overflow_add-prefix
overflow_add-prefix c =
    let fits = inside _ _ _ _ c.next-first.ensures.part prefix prefix-front _ c.text.ensures.text c.in-Some.ensures.start in
    let within = c.next-first.ensures.part.within in
    let sound = c.requires.sound.fits in
    let bounded = c.requires.sound.bounded in
    omega arith

pub returns-in_default-clause-makes : goal.returns-in_default-clause-makes
returns-in_default-clause-makes c = λ name.
    c.long_arithmetic.ensures.makes name (texts c.args.work.now c.args.arguments)
    c.next-first.ensures.text
    (c.next-second.ensures.text ∙ c.next-first.ensures.later 0)
    (c.next-other.ensures.text ∙ c.next-second.ensures.later 0 ∙ c.next-first.ensures.later 1)

pub give_decimal-requires-clause-prefix : goal.give_decimal-requires-clause-prefix
give_decimal-requires-clause-prefix c =
    front-part _ _ _ _ c.next-first.ensures.part prefix prefix-front _ c.text.ensures.text c.in-Some.ensures.start

pub returns-clause-makes : goal.returns-clause-makes
unfolding meaning_of
returns-clause-makes c = λ name.
    let w = c.args.work.now in
    let ts = texts w c.args.arguments in
    let operation = c.args.operation in
    let first = c.next-first.result in
    let left = c.text.ensures.text ∙ c.next-first.ensures.text in
    let right = c.text-2.ensures.text ∙ c.next-second.ensures.text ∙ c.next-first.ensures.later 0 in
    let before : part_text w.neutral first.from (first.from + c.in-Some.result.start) ≡ prefix (argument ts 0) =
    front-text _ _ _ _ c.next-first.ensures.part prefix prefix-front _ c.text.ensures.text c.in-Some.ensures.start ∙ ap prefix c.next-first.ensures.text in
    let n = c.in-Some.result.number in
    let result : Some n ≡ result_of_arith operation (number (argument ts 0)) (number (argument ts 1)) =
    c.in-Some.ensures.number
    ∙ ap (λ t. result_of_arith operation (number t) (number (text_of_cells c.text-2.result.now))) left
    ∙ ap (λ t. result_of_arith operation (number (argument ts 0)) (number t)) right in
    let fits : FitsSigned w64 n = search rules in
    let written : c.as_bytes-digits.result.now ≡ signed_decimal n = c.as_bytes-digits.ensures.value ∙ c.format.ensures.text ∙ ap signed_decimal (to_z-of_z w64 n fits) in
    c.give_decimal.ensures.makes (Arithmetic operation) (name ∷ ts)
    (valued-of (Arithmetic operation) (name ∷ ts) w.forms w.forms _ false
    (λ meta input. ap (λ r. result_or r (prefix (argument ts 0)) (argument ts 2) (world w.forms meta input)) (sym result)
    ∙ ap (λ p. result_or (Some n) p (argument ts 2) (world w.forms meta input)) (sym before)
    ∙ ap (λ t. valued (part_text w.neutral first.from (first.from + c.in-Some.result.start) ++ t) (world w.forms meta input)) (sym written))
    (λ _. refl))
