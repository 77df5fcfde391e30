use Rattle.trac_functions.proofs.Imports.{◌+◌, ◌≤◌, ◌++◌, false, length, arith, OnTrue_at, octal, used, part_text, bits_made}
use Rattle.trac_functions.proofs.ArgumentLemmas.{part-long}
use Rattle.trac_functions.proofs.PutCharacters.{stands-behind}
use Rattle.trac_functions.proofs.BitResults.{made-within, behind-all}
use Rattle.trac_functions.proofs.bit_strings.give_bits.Goals as goal

pub overflow_add-prefix : goal.overflow_add-prefix
overflow_add-prefix c =
    let w = c.args.work.now in
    let within = made-within w.neutral c.args.bits c.requires.parts in
    let part = c.requires.prefix.within in
    let fits = c.free.ensures.sound.fits in
    let bounded = c.free.ensures.sound.bounded in
    omega arith

pub returns-clause-makes : goal.returns-clause-makes
returns-clause-makes c = λ function args scanned valued.
    let w = c.args.work.now in
    let long = part-long w.neutral c.args.argument.from c.args.digits.from c.requires.prefix in
    let text = part_text w.neutral c.args.argument.from c.args.digits.from in
    let one : used w + length text ≤ w.room = omega (arith, long, c.free.ensures.value, c.if-free-prefix.false) in
    let put = OnTrue_at (c.put_part.ensures.put.1 one) c.put_part.ensures.last in
    let value = text ++ octal (bits_made w.neutral c.args.bits) in
    (value, stands-behind function args w c.put_digits.new.work value false valued c.put_digits.ensures.sound (behind-all w c.put_part.new.work text c.args.bits c.requires.parts put c.put_digits.new.work c.put_digits.ensures.put))
