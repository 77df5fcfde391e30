use Rattle.trac_values.proofs.Imports.{ap, ◌∙◌, arith, flat_map, slice_get, bits_of_digit, octal, shifted, number, text_of_cells, bits_of_cells}
use Rattle.trac_values.proofs.Texts.{length-text}
use Rattle.trac_values.proofs.OctalDigits.{length-bits_of}
use Rattle.trac_values.proofs.Shifts.{shift_same}
use Rattle.trac_values.proofs.bit_string.bool_shift.Goals as goal

pub returns : goal.returns
returns c =
    let d = number (text_of_cells c.args.d.now) in
    c.shifted_digit.ensures
    ∙ ap (λ l. slice_get (octal l) c.args.k)
    (shift_same d c.shift_of.result.negative c.shift_of.result.size 50331648 (bits_of_cells c.octal_digits.result.now) (omega (arith, length-text, length-bits_of)) c.shift_of.ensures.negative c.shift_of.ensures.size
    ∙ ap (λ t. shifted d (flat_map bits_of_digit t)) c.octal_digits.ensures.digits)
