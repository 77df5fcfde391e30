use Rattle.trac_devices.proofs.Imports.{◌≡◌, ◌+◌, length, refl, sym, ◌∙◌, arith, length-between, slice_range, AreWritten}
use Rattle.trac_devices.proofs.Blocks.{block_written}
use Rattle.trac_devices.proofs.characters.write_block.Goals as goal

pub returns-clause-written : goal.returns-clause-written
returns-clause-written c next is before =
    let text = c.args.text.now in
    let bytes = c.args.bytes.now in
    let i = c.args.i in
    let end = i + 8 in
    let cells = slice_range text i end in
    let within = c.requires.within in
    let long : length (slice_range bytes i end) ≡ length cells =
    length-between bytes i end (omega (arith, c.requires.same, within)) ∙ sym (length-between text i end within) in
    let none : AreWritten 0 cells (slice_range bytes i end) = record { written = refl; long = long } in
    let four : AreWritten 4 cells c.write_byte-4.new.bytes =
    c.write_byte-4.ensures.written 4 refl (c.write_byte-3.ensures.written 3 refl
    (c.write_byte-2.ensures.written 2 refl (c.write_byte.ensures.written 1 refl none))) in
    let eight : AreWritten 8 cells c.write_byte-8.new.bytes =
    c.write_byte-8.ensures.written 8 refl (c.write_byte-7.ensures.written 7 refl
    (c.write_byte-6.ensures.written 6 refl (c.write_byte-5.ensures.written 5 refl four))) in
    block_written text bytes c.write_byte-8.new.bytes i next is (omega (arith, is, within)) before eight
