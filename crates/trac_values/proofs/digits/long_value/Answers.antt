use Rattle.trac_values.proofs.Imports.{◌≡◌, ℕ, ◌+◌, ◌-◌, ◌*◌, ◌^◌, ◌<◌, ◌≤◌, List, ◌++◌, length, take, drop, Some, pos, sym, ap, ◌∙◌, arith, is_ascii_digit, slice_index, digits_value, take-add, take-map, drop-map, get_or-take, get_or-drop, length-map, length-take-le, length-drop, if_in_range, Cell}
use Rattle.trac_values.proofs.Imports.{character_of, text_of_cells, IsDecimal}
use Rattle.trac_values.proofs.DigitsFromEnd.{value-append}
use Rattle.trac_values.proofs.digits.long_value.Goals as goal

-- the text of a part of cells
part-text : (cells : List Cell) (a m : ℕ) → text_of_cells (take m (drop a cells)) ≡ take m (drop a (text_of_cells cells))
part-text cells a m = simp (take-map, drop-map)

-- a part of digits has digits
part-decimal : (cells : List Cell) (a m : ℕ) → a + m ≤ length cells → IsDecimal cells → IsDecimal (take m (drop a cells))
part-decimal cells a m within all i less =
    let text = text_of_cells cells in
    let long = length-map (take m (drop a cells)) character_of ∙ length-take-le m (drop a cells) (omega (arith, length-drop a cells)) in
    let few : i < m = omega (arith, less, long) in
    let at : slice_index (text_of_cells (take m (drop a cells))) i ≡ slice_index text (a + i) = ap (λ t. slice_index t i) (part-text cells a m) ∙ get_or-take m (drop a text) i 0 few ∙ get_or-drop a text i 0 in
    ap is_ascii_digit at ∙ all (a + i) (omega (arith, length-map cells character_of))

-- the number of the digits up to a later place
more-value : (cells : List Cell) (a m : ℕ) → a + m ≤ length cells → digits_value 10 (take (a + m) (text_of_cells cells)) ≡ digits_value 10 (take a (text_of_cells cells)) * 10 ^ length (take m (drop a cells)) + digits_value 10 (text_of_cells (take m (drop a cells)))
more-value cells a m within =
    let text = text_of_cells cells in
    let part = take m (drop a cells) in
    ap (digits_value 10) (take-add a m text ∙ ap (λ t. take a text ++ t) (sym (part-text cells a m)))
    ∙ value-append (take a text) (text_of_cells part)
    ∙ ap (λ k. digits_value 10 (take a text) * 10 ^ k + digits_value 10 (text_of_cells part)) (length-map part character_of)

pub part_value-requires-clause-decimal : goal.part_value-requires-clause-decimal
part_value-requires-clause-decimal c =
    let m = c.min.result in
    let size : c.loop-done.done + m - c.loop-done.done ≡ m = omega arith in
    rw size (part-decimal c.args.digits.now c.loop-done.done m (omega (arith, c.min.ensures, c.loop-done-test.true)) c.requires)

pub loop-done-preserved : goal.loop-done-preserved
loop-done-preserved c =
    let cells = c.args.digits.now in
    let done = c.loop-done.done in
    let m = c.min.result in
    let within : done + m ≤ length cells = omega (arith, c.min.ensures, c.loop-done-test.true) in
    let size : done + m - done ≡ m = omega arith in
    let part = rw size at c.part_value.ensures in
    let before = digits_value 10 (take done (text_of_cells cells)) in
    let joined : before * c.part_value.result.1 + c.part_value.result.0 ≡ digits_value 10 (take (done + m) (text_of_cells cells)) = rw (part.power, part.value) (sym (more-value cells done m within)) in
    record {
      within = within;
      value = c.with_part-value.ensures before c.loop-done.invariant.value ∙ ap (λ k. if_in_range (Some (pos k))) joined;
    }
