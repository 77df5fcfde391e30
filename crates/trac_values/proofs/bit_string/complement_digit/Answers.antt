use Rattle.trac_values.proofs.Imports.{sym, arith, is_octal, text_of_cells}
use Rattle.trac_values.proofs.Texts.{length-text, read_at, read_passes}
use Rattle.trac_values.proofs.DigitBits.{complement_at, complement_past}
use Rattle.trac_values.proofs.bit_string.complement_digit.Goals as goal

pub returns-then-place-digits : goal.returns-then-place-digits
returns-then-place-digits c =
    sym (complement_past (text_of_cells c.args.digits.now) c.args.k (omega (arith, length-text)))

pub returns : goal.returns
returns c =
    let cells = c.args.digits.now in
    let long = length-text cells in
    sym (complement_at (text_of_cells cells) c.args.k c.character_of.result (omega arith)
    (read_at cells c.args.k c.character_of.result 48 (omega arith) c.character_of.ensures)
    (read_passes is_octal cells c.args.k c.character_of.result c.requires (omega arith) c.character_of.ensures))
