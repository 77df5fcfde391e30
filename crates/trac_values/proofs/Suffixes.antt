-- The longest suffix of characters that pass a test, found from the end.
use Rattle.trac_values.proofs.Imports.{◌≡◌, ℕ, ◌+◌, ◌-◌, ◌*◌, ◌<◌, ◌≤◌, Bool, true, false, List, length, take, get_or, sym, ap, ◌∙◌, arith, suffix_len, is_ascii_digit, digit_value, digits_value, nat_tests, digits_value_more, length-take, length-map, get_or-map, suffix_len-take_yes}
use Rattle.trac_values.proofs.Imports.{suffix_len-take_no, Cell, character_of, text_of_cells, value_upto, IsDecimal}

module _ (p : ℕ → Bool) (cells : List Cell) where
  -- the character of a cell
  read : (i : ℕ) → i < length cells → get_or (text_of_cells cells) i 0 ≡ character_of (get_or cells i (Cell.Byte 0))
  read i h = get_or-map character_of cells i (Cell.Byte 0) 0 h

  -- one more character passes the test, seen from the end
  pub suffix_more : (n : ℕ) → 0 < n → n ≤ length cells → p (character_of (get_or cells (n - 1) (Cell.Byte 0))) ≡ true → n + suffix_len p (text_of_cells cells) ≡ length cells + suffix_len p (take n (text_of_cells cells)) → n - 1 + suffix_len p (text_of_cells cells) ≡ length cells + suffix_len p (take (n - 1) (text_of_cells cells))
  suffix_more n pos le passes so_far =
      let long = length-map cells character_of in
      let here = suffix_len-take_yes p (text_of_cells cells) n 0 pos (omega arith) (ap p (read (n - 1) (omega arith)) ∙ passes) in
      omega arith

  -- the next character from the end doesn't pass the test
  pub suffix_stops : (n : ℕ) → 0 < n → n ≤ length cells → p (character_of (get_or cells (n - 1) (Cell.Byte 0))) ≡ false → n + suffix_len p (text_of_cells cells) ≡ length cells + suffix_len p (take n (text_of_cells cells)) → n ≡ length (take (length (text_of_cells cells) - suffix_len p (text_of_cells cells)) (text_of_cells cells))
  suffix_stops n pos le stops so_far =
      let long = length-map cells character_of in
      let here = suffix_len-take_no p (text_of_cells cells) n 0 pos (omega arith) (ap p (read (n - 1) (omega arith)) ∙ stops) in
      omega (arith, length-take (length (text_of_cells cells) - suffix_len p (text_of_cells cells)) (text_of_cells cells))

-- a decimal digit and its value
pub digit_facts : (c : ℕ) → is_ascii_digit c ≡ true → (48 ≤ c) × (c < 58) × (digit_value c ≡ c - 48)
digit_facts c e = grind (arith, nat_tests)

-- a place of cells is one of their text
pub within_text : (cells : List Cell) (i : ℕ) → i < length cells → i < length (text_of_cells cells)
within_text cells i lt = omega (arith, length-map cells character_of)

-- the digit at a place of cells that all are digits
pub digit_at : (cells : List Cell) (i c : ℕ) → i < length cells → c ≡ character_of (get_or cells i (Cell.Byte 0)) → IsDecimal cells → (48 ≤ c) × (c < 58) × (digit_value (get_or (text_of_cells cells) i 0) ≡ c - 48)
digit_at cells i c lt is decimal =
    let same : get_or (text_of_cells cells) i 0 ≡ c = get_or-map character_of cells i (Cell.Byte 0) 0 lt ∙ sym is in
    let facts = digit_facts c (ap is_ascii_digit (sym same) ∙ decimal i (within_text cells i lt)) in
    (facts.0, facts.1, ap digit_value same ∙ facts.2)

-- the value of one more digit
pub value_more : (cells : List Cell) (i c : ℕ) → i < length cells → c ≡ character_of (get_or cells i (Cell.Byte 0)) → IsDecimal cells → digits_value 10 (take (i + 1) (text_of_cells cells)) ≡ digits_value 10 (take i (text_of_cells cells)) * 10 + (c - 48)
value_more cells i c lt is decimal =
    let long = length-map cells character_of in
    let facts = digit_at cells i c lt is decimal in
    digits_value_more 10 (text_of_cells cells) i (omega arith) ∙ ap (λ d. digits_value 10 (take i (text_of_cells cells)) * 10 + d) facts.2

-- the value up to a place that is within the digits
pub value_upto_more : (cells : List Cell) (long place c : ℕ) → length cells ≤ long → place < long → long ≤ place + length cells → c ≡ character_of (get_or cells (place + length cells - long) (Cell.Byte 0)) → IsDecimal cells → value_upto (text_of_cells cells) long (place + 1) ≡ value_upto (text_of_cells cells) long place * 10 + (c - 48)
value_upto_more cells long place c short before within is decimal =
    let n = length-map cells character_of in
    let i = place + length cells - long in
    let e1 : place + 1 + length (text_of_cells cells) - long ≡ i + 1 = omega arith in
    let e0 : i ≡ place + length (text_of_cells cells) - long = omega arith in
    ap (λ k. digits_value 10 (take k (text_of_cells cells))) e1
    ∙ value_more cells i c (omega arith) is decimal
    ∙ ap (λ k. digits_value 10 (take k (text_of_cells cells)) * 10 + (c - 48)) e0
