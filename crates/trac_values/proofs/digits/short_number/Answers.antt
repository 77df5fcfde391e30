use Rattle.trac_values.proofs.Imports.{◌≡◌, ◌-◌, ◌*◌, ◌+◌, ◌<◌, ◌^◌, length, drop, sym, ap, ◌∙◌, subst, arith, get_or, length-map, get_or-map, is_ascii_digit, digit_value, digits_value, Byte, character_of, text_of_cells}
use Rattle.trac_values.proofs.DigitsFromEnd.{value_before, fits_before}
use Rattle.trac_values.proofs.Suffixes.{digit_facts, suffix_more, suffix_stops}
use Rattle.trac_values.proofs.SuffixCells.{place}
use Rattle.trac_values.proofs.TwoParts.{below-power}
use Rattle.trac_values.proofs.digits.short_number.Goals as goal

pub returns-then-not-is_ascii_digit-clause-start : goal.returns-then-not-is_ascii_digit-clause-start
returns-then-not-is_ascii_digit-clause-start c =
    suffix_stops is_ascii_digit c.args.cells.now c.loop-start.start (omega arith) c.loop-start.invariant.within (ap is_ascii_digit (sym c.byte_in-character.ensures) ∙ sym c.is_ascii_digit.ensures.value ∙ c.if-not-is_ascii_digit.true) c.loop-start.invariant.digits

pub returns-then-not-is_ascii_digit-clause-value : goal.returns-then-not-is_ascii_digit-clause-value
returns-then-not-is_ascii_digit-clause-value c =
    c.loop-start.invariant.value
    ∙ ap (λ k. digits_value 10 (drop k (text_of_cells c.args.cells.now))) (place is_ascii_digit c.args.cells.now c.loop-start.start (returns-then-not-is_ascii_digit-clause-start c))

pub returns-then-not-is_ascii_digit-clause-below : goal.returns-then-not-is_ascii_digit-clause-below
returns-then-not-is_ascii_digit-clause-below c =
    below-power c.loop-start.value (length c.args.cells.now - c.loop-start.start) 19 (omega (arith, c.loop-start.invariant.least, c.saturating_sub-least.ensures)) c.loop-start.invariant.below

pub returns-then-least-eq0-clause-below : goal.returns-then-least-eq0-clause-below
returns-then-least-eq0-clause-below c =
    below-power c.loop-start.value (length c.args.cells.now - c.loop-start.start) 19 (omega (arith, c.loop-start.invariant.least, c.saturating_sub-least.ensures)) c.loop-start.invariant.below

pub overflow_mul-value : goal.overflow_mul-value
overflow_mul-value c =
    let facts = digit_facts c.byte_in-character.result (sym c.is_ascii_digit.ensures.value ∙ c.if-not-is_ascii_digit.false) in
    omega (arith, (fits_before _ c.loop-start.value c.loop-start.power c.from.result (omega arith) c.loop-start.invariant.power c.loop-start.invariant.below (omega (arith, facts.0, facts.1))).0)

pub overflow_add-value : goal.overflow_add-value
overflow_add-value c =
    let facts = digit_facts c.byte_in-character.result (sym c.is_ascii_digit.ensures.value ∙ c.if-not-is_ascii_digit.false) in
    omega (arith, (fits_before _ c.loop-start.value c.loop-start.power c.from.result (omega arith) c.loop-start.invariant.power c.loop-start.invariant.below (omega (arith, facts.0, facts.1))).1)

pub overflow_mul-power : goal.overflow_mul-power
overflow_mul-power c =
    let at = fits_before (length c.args.cells.now - c.loop-start.start) 0 c.loop-start.power 0 (omega arith) c.loop-start.invariant.power (omega arith) (omega arith) in
    omega (arith, at.2)

pub loop-start-preserved : goal.loop-start-preserved
loop-start-preserved c =
    let cells = c.args.cells.now in
    let text = text_of_cells cells in
    let n = c.loop-start.start in
    let k = length cells - n in
    let passes = sym c.is_ascii_digit.ensures.value ∙ c.if-not-is_ascii_digit.false in
    let facts = digit_facts c.byte_in-character.result passes in
    let next = fits_before k c.loop-start.value c.loop-start.power c.from.result (omega arith) c.loop-start.invariant.power c.loop-start.invariant.below (omega (arith, facts.0, facts.1)) in
    let long : length text ≡ length cells = length-map cells character_of in
    let digit : digit_value (get_or text (n - 1) 0) ≡ c.from.result = ap digit_value (get_or-map character_of cells (n - 1) (Byte 0) 0 (omega arith) ∙ sym c.byte_in-character.ensures) ∙ facts.2 ∙ sym c.from.ensures in
    let before = value_before text n c.from.result (omega arith) (omega arith) digit in
    let power : c.from.result * c.loop-start.power ≡ c.from.result * 10 ^ (length text - n) = ap (λ p. c.from.result * p) (c.loop-start.invariant.power ∙ ap (λ m. 10 ^ (m - n)) (sym long)) in
    let one : k + 1 ≡ length cells - (n - 1) = omega arith in
    record {
      within = omega arith;
      least = omega arith;
      digits = suffix_more is_ascii_digit cells n (omega arith) c.loop-start.invariant.within (ap is_ascii_digit (sym c.byte_in-character.ensures) ∙ passes) c.loop-start.invariant.digits;
      value = omega (arith, power, before, c.loop-start.invariant.value);
      power = next.4 ∙ ap (λ m. 10 ^ m) one;
      below = subst (λ m. c.loop-start.value + c.from.result * c.loop-start.power < 10 ^ m) one next.3;
    }
