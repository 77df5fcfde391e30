-- The cells of the longest suffix of characters that pass a test.
use Rattle.trac_values.proofs.Imports.{◌≡◌, ℕ, ◌+◌, ◌-◌, ◌<◌, Bool, true, List, length, take, drop, get_or, sym, ap, ◌∙◌, arith, reverse, suffix_len, length-take, length-drop, get_or-drop, get_or-reverse, drop-map, prefix_len_passes, suffix_len-le-length, Text, Cell, character_of, text_of_cells}

module _ (p : ℕ → Bool) where
  length-front : (t : Text) → length (take (length t - suffix_len p t) t) ≡ length t - suffix_len p t
  length-front t = omega (arith, length-take (length t - suffix_len p t) t)

  length-suffix : (t : Text) → length (drop (length t - suffix_len p t) t) ≡ suffix_len p t
  length-suffix t = omega (arith, length-drop (length t - suffix_len p t) t, suffix_len-le-length p t)

  -- each character of the longest suffix passes the test
  suffix_passes : (t : Text) (k : ℕ) → k < length (drop (length t - suffix_len p t) t) → p (get_or (drop (length t - suffix_len p t) t) k 0) ≡ true
  suffix_passes t k h =
      let n = suffix_len p t in
      let m = n - 1 - k in
      let at : length t - 1 - m ≡ length t - n + k = omega (arith, suffix_len-le-length, length-suffix) in
      let here : p (get_or (reverse t) m 0) ≡ true = prefix_len_passes p (reverse t) m 0 (omega (arith, suffix_len-le-length, length-suffix)) in
      ap p (get_or-drop (length t - n) t k 0 ∙ ap (λ i. get_or t i 0) (sym at) ∙ sym (get_or-reverse t m 0 (omega (arith, suffix_len-le-length, length-suffix)))) ∙ here

  module _ (cells : List Cell) (s : ℕ) (is : s ≡ length (take (length (text_of_cells cells) - suffix_len p (text_of_cells cells)) (text_of_cells cells))) where
    pub place : s ≡ length (text_of_cells cells) - suffix_len p (text_of_cells cells)
    place = is ∙ length-front (text_of_cells cells)

    -- the cells from s on are the suffix
    pub back_is : text_of_cells (drop s cells) ≡ drop (length (text_of_cells cells) - suffix_len p (text_of_cells cells)) (text_of_cells cells)
    back_is = sym (drop-map character_of s cells) ∙ ap (λ n. drop n (text_of_cells cells)) place

    pub back_passes : (k : ℕ) → k < length (text_of_cells (drop s cells)) → p (get_or (text_of_cells (drop s cells)) k 0) ≡ true
    back_passes k h =
        let e = ap length back_is in
        ap (λ t. p (get_or t k 0)) back_is ∙ suffix_passes (text_of_cells cells) k (omega arith)
