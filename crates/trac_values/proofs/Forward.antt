-- The digits at the end of a text, read from the first character to the last.
use Rattle.trac_values.proofs.Imports.{◌≡◌, ℕ, ◌+◌, ◌-◌, ◌*◌, ◌^◌, ◌<◌, ◌≤◌, true, false, List, length, take, drop, get_or, sym, ap, ◌∙◌, arith, suffix_len, is_ascii_digit, digit_value, digits_value, digits_value_more, pow-le-pow_right, pow_more, length-drop, length-map, get_or-drop}
use Rattle.trac_values.proofs.Imports.{suffix_len-take_yes, suffix_len-take_no, get_or-map, Cell, character_of, text_of_cells}
use Rattle.trac_values.proofs.Suffixes.{digit_facts}

-- the value of at most 18 digits, with one more digit behind them, fits in 64 bits
pub fits_more : (k v d : ℕ) → k < 19 → v < 10 ^ k → d < 10 → (v * 10 + d < 2 ^ 64) × (v * 10 + d < 10 ^ (k + 1))
fits_more k v d lt below digit =
    let base : 0 < 10 = omega arith in
    let le : k ≤ 18 = omega arith in
    let most : 10 ^ k ≤ 1000000000000000000 = pow-le-pow_right base le in
    let more : 10 ^ (k + 1) ≡ 10 ^ k * 10 = pow_more 10 k in
    (omega arith, omega arith)

module _ (cells : List Cell) (i c : ℕ) (lt : i < length cells) (is : c ≡ character_of (get_or cells i (Cell.Byte 0))) where
  long : length (text_of_cells cells) ≡ length cells
  long = length-map cells character_of

  read : get_or (text_of_cells cells) i 0 ≡ c
  read = get_or-map character_of cells i (Cell.Byte 0) 0 lt ∙ sym is

  last : (b : _) → is_ascii_digit c ≡ b → is_ascii_digit (get_or (text_of_cells cells) (i + 1 - 1) 0) ≡ b
  last b passes = let e : i + 1 - 1 ≡ i = omega arith in ap (λ k. is_ascii_digit (get_or (text_of_cells cells) k 0)) e ∙ ap is_ascii_digit read ∙ passes

  -- one more digit belongs to the suffix that begins at s
  pub one_longer : (s : ℕ) → s ≤ i → is_ascii_digit c ≡ true → suffix_len is_ascii_digit (take i (text_of_cells cells)) ≡ i - s → suffix_len is_ascii_digit (take (i + 1) (text_of_cells cells)) ≡ i + 1 - s
  one_longer s le passes so_far =
      let here = suffix_len-take_yes is_ascii_digit (text_of_cells cells) (i + 1) 0 (omega arith) (omega (arith, long)) (last true passes) in
      let e : i + 1 - 1 ≡ i = omega arith in
      let before = ap (λ k. suffix_len is_ascii_digit (take k (text_of_cells cells))) e in
      omega (arith, here, before, so_far)

  pub one_more : (s : ℕ) → s ≤ i → is_ascii_digit c ≡ true → digits_value 10 (take (i + 1 - s) (drop s (text_of_cells cells))) ≡ digits_value 10 (take (i - s) (drop s (text_of_cells cells))) * 10 + (c - 48)
  one_more s le passes =
      let rest = drop s (text_of_cells cells) in
      let e : i + 1 - s ≡ i - s + 1 = omega arith in
      let at : s + (i - s) ≡ i = omega arith in
      let value = digits_value_more 10 rest (i - s) (omega (arith, length-drop s (text_of_cells cells), long)) in
      let digit : digit_value (get_or rest (i - s) 0) ≡ c - 48 = ap digit_value (get_or-drop s (text_of_cells cells) (i - s) 0 ∙ ap (λ k. get_or (text_of_cells cells) k 0) at ∙ read) ∙ (digit_facts c passes).2 in
      ap (λ k. digits_value 10 (take k rest)) e ∙ value ∙ ap (λ d. digits_value 10 (take (i - s) rest) * 10 + d) digit

  -- one more digit behind digits alone
  pub all_longer : is_ascii_digit c ≡ true → suffix_len is_ascii_digit (take i (text_of_cells cells)) ≡ i → suffix_len is_ascii_digit (take (i + 1) (text_of_cells cells)) ≡ i + 1
  all_longer passes so_far =
      omega (arith, one_longer 0 (omega arith) passes (omega (arith, so_far)))

  pub all_more : is_ascii_digit c ≡ true → digits_value 10 (take (i + 1) (text_of_cells cells)) ≡ digits_value 10 (take i (text_of_cells cells)) * 10 + (c - 48)
  all_more passes =
      let value = digits_value_more 10 (text_of_cells cells) i (omega (arith, long)) in
      let digit : digit_value (get_or (text_of_cells cells) i 0) ≡ c - 48 = ap digit_value read ∙ (digit_facts c passes).2 in
      value ∙ ap (λ d. digits_value 10 (take i (text_of_cells cells)) * 10 + d) digit

  -- a character that is no digit ends it
  pub none_longer : is_ascii_digit c ≡ false → suffix_len is_ascii_digit (take (i + 1) (text_of_cells cells)) ≡ 0
  none_longer stops =
      suffix_len-take_no is_ascii_digit (text_of_cells cells) (i + 1) 0 (omega arith) (omega (arith, long)) (last false stops)
