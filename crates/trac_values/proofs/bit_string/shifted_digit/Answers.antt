use Rattle.trac_values.proofs.Imports.{length, pos, sym, ap, ◌∙◌, Some, arith, ◌+ℤ◌, bit_at, bits_of_cells, signed}
use Rattle.trac_values.proofs.Texts.{length-text}
use Rattle.trac_values.proofs.OctalDigits.{length-bits_of}
use Rattle.trac_values.proofs.Shifts.{by_digit, by_past}
use Rattle.trac_values.proofs.bit_string.shifted_digit.Goals as goal

pub returns-then-place-digits : goal.returns-then-place-digits
returns-then-place-digits c =
    let l = bits_of_cells c.args.digits.now in
    let d = signed c.args.by.negative c.args.by.size in
    sym (by_past (λ i. bit_at l (pos i +ℤ d)) (length l) c.args.k (omega (arith, length-text, length-bits_of)))

pub returns : goal.returns
returns c =
    let l = bits_of_cells c.args.digits.now in
    let d = signed c.args.by.negative c.args.by.size in
    ap Some c.octal_digit.ensures
    ∙ sym (by_digit (λ i. bit_at l (pos i +ℤ d)) (length l) c.args.k c.shifted_bit-first.result c.shifted_bit-second.result c.shifted_bit-third.result (omega (arith, length-text, length-bits_of)) c.shifted_bit-first.ensures c.shifted_bit-second.ensures c.shifted_bit-third.ensures)
