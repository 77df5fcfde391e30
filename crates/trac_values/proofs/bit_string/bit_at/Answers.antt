use Rattle.trac_values.proofs.Imports.{◌/◌, length, sym, ◌∙◌, false, arith, get_or_past, le-ltb, is_octal, text_of_cells, bits_of_cells}
use Rattle.trac_values.proofs.Texts.{length-text, read_at, read_passes}
use Rattle.trac_values.proofs.OctalDigits.{length-bits_of}
use Rattle.trac_values.proofs.DigitBits.{bit_read}
use Rattle.trac_values.proofs.bit_string.bit_at.Goals as goal

pub returns-then-place-digits : goal.returns-then-place-digits
returns-then-place-digits c =
    bit_read (text_of_cells c.args.digits.now) c.args.place c.character_of.result
    (read_at c.args.digits.now _ c.character_of.result 48 (omega arith) c.character_of.ensures)
    (read_passes is_octal c.args.digits.now _ c.character_of.result c.requires (omega arith) c.character_of.ensures)

pub returns-else-place-digits : goal.returns-else-place-digits
returns-else-place-digits c =
    le-ltb (c.args.place / 3) (length c.args.digits.now) (omega (arith, length-text, length-bits_of)) ∙ sym (get_or_past (bits_of_cells c.args.digits.now) c.args.place false (omega (arith, length-text, length-bits_of)))
