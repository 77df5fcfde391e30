use Rattle.trac_functions.proofs.Imports.{◌≡◌, ◌∷◌, max, length, ap, ◌∙◌, refl, arith, Rotate, number, rotated, argument, meaning_of, bits_at, texts}
use Rattle.trac_functions.proofs.BitResults.{bits-valued, length-at, rotation-any}
use Rattle.trac_functions.proofs.bit_strings.rotate.Goals as goal

pub returns-clause-makes : goal.returns-clause-makes
unfolding meaning_of
returns-clause-makes c = λ name.
    let w = c.args.work.now in
    let ts = texts w c.args.arguments in
    let second = c.next-rotated.ensures.text ∙ c.next-distance.ensures.later 0 in
    let number_is = ap (λ t. number t) (c.text.ensures.text ∙ c.next-distance.ensures.text) in
    let l = bits_at w.neutral c.digits_of-digits.result in
    let long = length-at w.neutral c.digits_of-digits.result c.digits_of-digits.ensures.digits in
    let bits_is : c.max-bits.result ≡ max (length l) 1 = omega (arith, long, c.max-bits.ensures) in
    c.give_bits.ensures.makes Rotate (name ∷ ts) c.args.arguments.scanned
    (bits-valued Rotate (name ∷ ts) (rotated (number (argument ts 0))) _ (λ _. refl) (λ _. refl) w.forms _ _ _ _ second c.digits_of-digits.ensures.prefix c.digits_of-digits.ensures.bits
    (rotation-any _ c.rotation_of-by.result c.max-bits.result l bits_is c.rotation_of-by.ensures ∙ ap (λ n. rotated n l) number_is))
