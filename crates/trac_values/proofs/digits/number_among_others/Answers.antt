use Rattle.trac_values.proofs.Imports.{◌≡◌, ◌∙◌, ◌+◌, ◌-◌, ◌*◌, ◌^◌, ◌<◌, length, sym, ap, subst, arith, drop, take, digits_value, text_of_cells}
use Rattle.trac_values.proofs.Suffixes.{digit_facts}
use Rattle.trac_values.proofs.Forward.{fits_more, one_longer, one_more, none_longer}
use Rattle.trac_values.proofs.digits.number_among_others.Goals.{then-is_ascii_digit, else-is_ascii_digit}
use Rattle.trac_values.proofs.TwoParts.{below-power}
use Rattle.trac_values.proofs.digits.number_among_others.Goals as goal

pub returns-clause-below : goal.returns-clause-below
returns-clause-below c =
    below-power c.loop-i.value (c.loop-i.i - c.loop-i.start) 18 (omega (arith, c.requires.few)) c.loop-i.invariant.below

pub overflow_mul-value : goal.overflow_mul-value
overflow_mul-value c =
    let more = fits_more (c.loop-i.i - c.loop-i.start) c.loop-i.value 0 (omega (arith, c.loop-i-test.true, c.requires.few)) c.loop-i.invariant.below (omega arith) in
    omega (arith, more.0)

pub overflow_add-value : goal.overflow_add-value
overflow_add-value c =
    let digit = digit_facts c.byte_in-character.result (sym c.is_ascii_digit.ensures.value ∙ c.if-is_ascii_digit.true) in
    let more = fits_more (c.loop-i.i - c.loop-i.start) c.loop-i.value c.from.result (omega (arith, c.loop-i-test.true, c.requires.few)) c.loop-i.invariant.below (omega (arith, digit.0, digit.1, c.from.ensures)) in
    omega (arith, more.0)

pub loop-i-preserved : goal.loop-i-preserved
loop-i-preserved c =
    let cells = c.args.cells.now in
    let i = c.loop-i.i in
    let s = c.loop-i.start in
    let character = c.byte_in-character.result in
    let lt : i < length cells = c.loop-i-test.true in
    let few = c.requires.few in
    let inside = c.loop-i.invariant.within in
    let below = c.loop-i.invariant.below in
    elim c.if-is_ascii_digit.branch [
      | then-is_ascii_digit w ↦
          let passes = sym c.is_ascii_digit.ensures.value ∙ w.if-is_ascii_digit.true in
          let digit = digit_facts character passes in
          let long = one_longer cells i character lt c.byte_in-character.ensures s inside passes c.loop-i.invariant.digits in
          let value = one_more cells i character lt c.byte_in-character.ensures s inside passes in
          let more = fits_more (i - s) c.loop-i.value w.from.result (omega (arith, lt, few)) below (omega (arith, digit.0, digit.1, w.from.ensures)) in
          let next : i - s + 1 ≡ i + 1 - s = omega arith in
          rw (w.start-is, w.value-is) (record {
            within = omega arith;
            digits = long;
            value = omega (arith, value, c.loop-i.invariant.value, w.from.ensures);
            below = subst (λ k. c.loop-i.value * 10 + w.from.result < 10 ^ k) next more.1;
          })
      | else-is_ascii_digit w ↦
          let stops = sym c.is_ascii_digit.ensures.value ∙ w.if-is_ascii_digit.false in
          let none = none_longer cells i character lt c.byte_in-character.ensures stops in
          let zero : i + 1 - (i + 1) ≡ 0 = omega arith in
          let rest = drop (i + 1) (text_of_cells cells) in
          rw (w.start-is, w.value-is) (record {
            within = omega arith;
            digits = omega (arith, none);
            value = ap (λ k. digits_value 10 (take k rest)) (sym zero);
            below = subst (λ k. 0 < 10 ^ k) (sym zero) (omega arith);
          })
    ]
