use Rattle.trac_values.proofs.Imports.{◌≡◌, ◌+◌, ◌-◌, length, get_or, sym, ap, ◌∙◌, arith, is_octal, text_of_cells}
use Rattle.trac_values.proofs.Texts.{length-text, read_at, read_passes, padded_within}
use Rattle.trac_values.proofs.bit_string.aligned_digit.Goals as goal

pub returns-else-place-digits-clause-octal : goal.returns-else-place-digits-clause-octal
returns-else-place-digits-clause-octal c =
    read_passes is_octal c.args.digits.now (c.args.place + length c.args.digits.now - c.args.long) c.character_of.result c.requires.octal (omega arith) c.character_of.ensures

pub returns-else-place-digits-clause-digit : goal.returns-else-place-digits-clause-digit
returns-else-place-digits-clause-digit c =
    let cells = c.args.digits.now in
    let n = length-text cells in
    let i = c.args.place + length cells - c.args.long in
    let e : i ≡ c.args.place + length (text_of_cells cells) - c.args.long = omega arith in
    read_at cells i c.character_of.result 48 (omega arith) c.character_of.ensures
    ∙ ap (λ i. get_or (text_of_cells cells) i 48) e
    ∙ sym (padded_within c.args.long c.args.place 48 (text_of_cells cells) (omega arith) (omega arith))
