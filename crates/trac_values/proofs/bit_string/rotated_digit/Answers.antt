use Rattle.trac_values.proofs.Imports.{◌≡◌, ◌*◌, ◌+◌, ◌%◌, ℕ, length, pos, false, get_or, sym, ap, ◌∙◌, Some, arith, ◌+ℤ◌, int_rem_euclid, bit_at, bits_of_cells}
use Rattle.trac_values.proofs.Texts.{length-text}
use Rattle.trac_values.proofs.OctalDigits.{length-bits_of}
use Rattle.trac_values.proofs.Shifts.{by_digit, by_past}
use Rattle.trac_values.proofs.bit_string.rotated_digit.Goals as goal

pub returns-then-place-digits : goal.returns-then-place-digits
returns-then-place-digits c =
    let l = bits_of_cells c.args.digits.now in
    sym (by_past (λ i. bit_at l (int_rem_euclid (pos i +ℤ pos c.args.by) (pos (length l)))) (length l) c.args.k (omega (arith, length-text, length-bits_of)))

pub returns : goal.returns
returns c =
    let l = bits_of_cells c.args.digits.now in
    let by = c.args.by in
    let whole : 3 * length c.args.digits.now ≡ length l = omega (arith, length-text, length-bits_of) in
    let at : (i : ℕ) → get_or l ((i + by) % (3 * length c.args.digits.now)) false ≡ get_or l ((i + by) % length l) false =
    λ i. ap (λ n. get_or l ((i + by) % n) false) whole in
    ap Some c.octal_digit.ensures
    ∙ sym (by_digit (λ i. bit_at l (int_rem_euclid (pos i +ℤ pos by) (pos (length l)))) (length l) c.args.k c.rotated_bit-first.result c.rotated_bit-second.result c.rotated_bit-third.result (omega (arith, length-text, length-bits_of))
    (c.rotated_bit-first.ensures ∙ at (3 * c.args.k))
    (c.rotated_bit-second.ensures ∙ at (3 * c.args.k + 1))
    (c.rotated_bit-third.ensures ∙ at (3 * c.args.k + 2)))
