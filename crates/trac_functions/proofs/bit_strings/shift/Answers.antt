use Rattle.trac_functions.proofs.Imports.{◌∷◌, ◌≤◌, length, ap, ◌∙◌, refl, arith, Shift, number, shifted, argument, meaning_of, text_of_cells, shift_same, bits_at, texts}
use Rattle.trac_functions.proofs.BitResults.{bits-valued, length-at}
use Rattle.trac_functions.proofs.bit_strings.shift.Goals as goal

pub returns-clause-makes : goal.returns-clause-makes
unfolding meaning_of
returns-clause-makes c = λ name.
    let w = c.args.work.now in
    let ts = texts w c.args.arguments in
    let second = c.next-shifted.ensures.text ∙ c.next-distance.ensures.later 0 in
    let number_is = ap (λ t. number t) (c.text.ensures.text ∙ c.next-distance.ensures.text) in
    let l = bits_at w.neutral c.digits_of-digits.result in
    let d = number (text_of_cells c.text.result.now) in
    let long = length-at w.neutral c.digits_of-digits.result c.digits_of-digits.ensures.digits in
    let by = c.shift_of-by.result in
    let within = c.digits_of-digits.ensures.digits.within in
    let fits = c.requires.sound.fits in
    let bounded = c.requires.sound.bounded in
    let room : length l ≤ 50331648 = omega (arith, long) in
    c.give_bits.ensures.makes Shift (name ∷ ts) c.args.arguments.scanned
    (bits-valued Shift (name ∷ ts) (shifted (number (argument ts 0))) _ (λ _. refl) (λ _. refl) w.forms _ _ _ _ second c.digits_of-digits.ensures.prefix c.digits_of-digits.ensures.bits
    (shift_same d by.negative by.size 50331648 l room c.shift_of-by.ensures.negative c.shift_of-by.ensures.size ∙ ap (λ n. shifted n l) number_is))
