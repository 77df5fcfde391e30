use Rattle.trac_values.proofs.Imports.{◌∙◌, ◌<◌, length, sym, arith}
use Rattle.trac_values.proofs.Suffixes.{digit_facts}
use Rattle.trac_values.proofs.Forward.{fits_more, all_longer, all_more}
use Rattle.trac_values.proofs.TwoParts.{below-power}
use Rattle.trac_values.proofs.digits.number_in_few.Goals as goal

pub returns-clause-below : goal.returns-clause-below
returns-clause-below c =
    below-power c.loop-i.value c.loop-i.i 18 (omega (arith, c.requires.few, c.loop-i.auto.i-end)) c.loop-i.invariant.below

pub overflow_mul-value : goal.overflow_mul-value
overflow_mul-value c =
    let more = fits_more c.loop-i.i c.loop-i.value 0 (omega (arith, c.loop-i-test.true, c.requires.few)) c.loop-i.invariant.below (omega arith) in
    omega (arith, more.0)

pub overflow_add-value : goal.overflow_add-value
overflow_add-value c =
    let digit = digit_facts c.byte_in-character.result (sym c.is_ascii_digit.ensures.value ∙ c.if-not-is_ascii_digit.false) in
    let more = fits_more c.loop-i.i c.loop-i.value c.from.result (omega (arith, c.loop-i-test.true, c.requires.few)) c.loop-i.invariant.below (omega (arith, digit.0, digit.1, c.from.ensures)) in
    omega (arith, more.0)

pub loop-i-preserved : goal.loop-i-preserved
loop-i-preserved c =
    let cells = c.args.cells.now in
    let i = c.loop-i.i in
    let character = c.byte_in-character.result in
    let lt : i < length cells = c.loop-i-test.true in
    let passes = sym c.is_ascii_digit.ensures.value ∙ c.if-not-is_ascii_digit.false in
    let digit = digit_facts character passes in
    let long = all_longer cells i character lt c.byte_in-character.ensures passes c.loop-i.invariant.digits in
    let value = all_more cells i character lt c.byte_in-character.ensures passes in
    let more = fits_more i c.loop-i.value c.from.result (omega (arith, lt, c.requires.few)) c.loop-i.invariant.below (omega (arith, digit.0, digit.1, c.from.ensures)) in
    record {
      digits = long;
      value = omega (arith, value, c.loop-i.invariant.value, c.from.ensures);
      below = more.1;
    }
