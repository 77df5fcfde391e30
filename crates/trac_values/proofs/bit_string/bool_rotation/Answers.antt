use Rattle.trac_values.proofs.Imports.{◌≡◌, ◌*◌, length, pos, ap, ◌∙◌, arith, flat_map, slice_get, int_rem_euclid, bits_of_digit, octal, rotated, number, text_of_cells, bits_of_cells}
use Rattle.trac_values.proofs.Texts.{length-text}
use Rattle.trac_values.proofs.OctalDigits.{length-bits_of}
use Rattle.trac_values.proofs.Shifts.{rotation_same}
use Rattle.trac_values.proofs.bit_string.bool_rotation.Goals as goal

pub returns : goal.returns
returns c =
    let d = number (text_of_cells c.args.d.now) in
    let digits = c.octal_digits-digits.result.now in
    let whole : length (bits_of_cells digits) ≡ 3 * length digits = omega (arith, length-text, length-bits_of) in
    c.rotated_digit.ensures
    ∙ ap (λ l. slice_get (octal l) c.args.k)
    (rotation_same d c.rotation_of.result (bits_of_cells digits) (ap (λ n. int_rem_euclid d (pos n)) whole ∙ c.rotation_of.ensures)
    ∙ ap (λ t. rotated d (flat_map bits_of_digit t)) c.octal_digits-digits.ensures.digits)
