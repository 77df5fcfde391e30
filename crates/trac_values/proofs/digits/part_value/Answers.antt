use Rattle.trac_values.proofs.Imports.{◌≡◌, ◌<◌, ◌^◌, length, true, sym, ap, ◌∙◌, refl, arith, rules, length-map, get_or-map, take_all, digits_value, is_ascii_digit, Cell, Byte, character_of, text_of_cells, IsByte}
use Rattle.trac_values.proofs.DigitsFromEnd.{fits_before}
use Rattle.trac_values.proofs.Suffixes.{digit_at, value_more, within_text}
use Rattle.trac_values.proofs.digits.part_value.Goals as goal

-- only a character is a digit
digit-byte : (cell : Cell) → is_ascii_digit (character_of cell) ≡ true → IsByte cell
digit-byte (Byte b) digit = search rules
digit-byte cell digit = absurd cc

pub byte_in-requires : goal.byte_in-requires
byte_in-requires c =
    let i = c.loop-i.i in
    let same = get_or-map character_of c.args.digits.now i (Byte 0) 0 c.loop-i-test.true in
    digit-byte _ (ap is_ascii_digit (sym same) ∙ c.requires.decimal i (within_text c.args.digits.now i c.loop-i-test.true))

pub overflow_sub-byte_in : goal.overflow_sub-byte_in
overflow_sub-byte_in c =
    (digit_at c.args.digits.now c.loop-i.i _ c.loop-i-test.true c.byte_in.ensures c.requires.decimal).0

pub overflow_mul-value : goal.overflow_mul-value
overflow_mul-value c =
    let below = c.loop-i.invariant.below in
    let at = fits_before c.loop-i.i 0 (10 ^ c.loop-i.i) 0 (omega (arith, c.loop-i-test.true, c.requires.few)) refl (omega (arith, below)) (omega arith) in
    omega (arith, at.2, below)

pub overflow_add-value : goal.overflow_add-value
overflow_add-value c =
    let below = c.loop-i.invariant.below in
    let i = c.loop-i.i in
    let lt : i < length c.args.digits.now = c.loop-i-test.true in
    let digit = digit_at c.args.digits.now i c.byte_in.result lt c.byte_in.ensures c.requires.decimal in
    let at = fits_before i 0 (10 ^ i) 0 (omega (arith, lt, c.requires.few)) refl (omega (arith, below)) (omega arith) in
    omega (arith, at.2, below, digit.1, c.from.ensures)

pub overflow_mul-power : goal.overflow_mul-power
overflow_mul-power c =
    let at = fits_before c.loop-i.i 0 (10 ^ c.loop-i.i) 0 (omega (arith, c.loop-i-test.true, c.requires.few)) refl (omega (arith, c.loop-i.invariant.below)) (omega arith) in
    omega (arith, at.2, c.loop-i.invariant.power)

pub loop-i-preserved : goal.loop-i-preserved
loop-i-preserved c =
    let below = c.loop-i.invariant.below in
    let i = c.loop-i.i in
    let cells = c.args.digits.now in
    let lt : i < length cells = c.loop-i-test.true in
    let digit = digit_at cells i c.byte_in.result lt c.byte_in.ensures c.requires.decimal in
    let at = fits_before i 0 (10 ^ i) 0 (omega (arith, lt, c.requires.few)) refl (omega (arith, below)) (omega arith) in
    let more = value_more cells i c.byte_in.result lt c.byte_in.ensures c.requires.decimal in
    record {
      value = omega (arith, more, c.loop-i.invariant.value, c.from.ensures);
      below = omega (arith, at.4, below, digit.1, c.from.ensures);
      power = omega (arith, at.4, c.loop-i.invariant.power);
    }

pub returns : goal.returns
returns c =
    let text = text_of_cells c.args.digits.now in
    let long : length text ≡ length c.args.digits.now = length-map c.args.digits.now character_of in
    let end : c.loop-i.i ≡ length c.args.digits.now = omega (arith, c.loop-i.auto.i-end, c.loop-i-test.false) in
    record {
      value = c.loop-i.invariant.value ∙ ap (digits_value 10) (take_all c.loop-i.i text (omega arith));
      power = c.loop-i.invariant.power ∙ ap (λ k. 10 ^ k) end;
      below = omega (arith, c.loop-i.invariant.below, c.loop-i.invariant.power);
    }
