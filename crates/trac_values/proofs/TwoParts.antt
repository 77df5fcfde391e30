-- The digits at the end of a text that stands in two parts.
use Rattle.trac_values.proofs.Imports.{◌≡◌, ℕ, ◌+◌, ◌-◌, ◌*◌, ◌^◌, ◌<◌, ◌≤◌, Bool, true, false, List, [], ◌∷◌, ◌++◌, length, take, drop, reverse, refl, sym, ap, ◌∙◌, arith, rules, is_ascii_digit, suffix_len, prefix_len, digits_value, pow-le-pow_right, length-append, length-take, length-map, length-reverse, reverse-append, drop-drop, take-map, drop-map, take-append-drop}
use Rattle.trac_values.proofs.Imports.{same_lists, places, cond, before_digits, digits, Text, Cell, character_of, text_of_cells, suffix_len-le-length}
use Rattle.trac_values.proofs.DigitsFromEnd.{value-append}

module _ (p : ℕ → Bool) where
  -- if all characters of the first text pass the test, those of the second are counted too
  through : (xs ys : List ℕ) → prefix_len p xs ≡ length xs → prefix_len p (xs ++ ys) ≡ length xs + prefix_len p ys
  through [] ys all = omega arith
  through (x ∷ xs) ys all = go (p x) (through xs ys) all
    where
      go : (b : Bool) → (prefix_len p xs ≡ length xs → prefix_len p (xs ++ ys) ≡ length xs + prefix_len p ys) → cond b (1 + prefix_len p xs) 0 ≡ length (x ∷ xs) → cond b (1 + prefix_len p (xs ++ ys)) 0 ≡ length (x ∷ xs) + prefix_len p ys
      go true rest all = omega (arith, rest (omega (arith, all)))
      go false rest all = absurd (omega (arith, all))

  -- if not all characters of the first text pass the test, none of the second counts
  within : (xs ys : List ℕ) → prefix_len p xs < length xs → prefix_len p (xs ++ ys) ≡ prefix_len p xs
  within [] ys less = absurd (omega (arith, less))
  within (x ∷ xs) ys less = go (p x) (within xs ys) less
    where
      go : (b : Bool) → (prefix_len p xs < length xs → prefix_len p (xs ++ ys) ≡ prefix_len p xs) → cond b (1 + prefix_len p xs) 0 < length (x ∷ xs) → cond b (1 + prefix_len p (xs ++ ys)) 0 ≡ cond b (1 + prefix_len p xs) 0
      go true rest less = omega (arith, rest (omega (arith, less)))
      go false rest less = refl

  suffix-through : (front back : Text) → suffix_len p back ≡ length back → suffix_len p (front ++ back) ≡ length back + suffix_len p front
  suffix-through front back all =
      ap (prefix_len p) (reverse-append front back)
      ∙ through (reverse back) (reverse front) (all ∙ sym (length-reverse back))
      ∙ ap (λ n. n + suffix_len p front) (length-reverse back)

  suffix-within : (front back : Text) → suffix_len p back < length back → suffix_len p (front ++ back) ≡ suffix_len p back
  suffix-within front back less =
      ap (prefix_len p) (reverse-append front back) ∙ within (reverse back) (reverse front) (omega (arith, less, length-reverse back))

-- how many characters stand before the digits
before-long : (t : Text) → length (before_digits t) ≡ length t - suffix_len is_ascii_digit t
before-long t = omega (arith, length-take (length t - suffix_len is_ascii_digit t) t)

module _ (cells : List Cell) (n : ℕ) (few : n ≤ length cells) where
  abbrev pub text : Text
  text = text_of_cells cells

  abbrev pub front : Text
  front = text_of_cells (take n cells)

  abbrev pub back : Text
  back = text_of_cells (drop n cells)

  front-is : front ≡ take n text
  front-is = sym (take-map character_of n cells)

  back-is : back ≡ drop n text
  back-is = sym (drop-map character_of n cells)

  joined : text ≡ front ++ back
  joined = sym (take-append-drop n text) ∙ ap (λ t. t ++ drop n text) (sym front-is) ∙ ap (λ t. front ++ t) (sym back-is)

  text-long : length text ≡ length cells
  text-long = length-map cells character_of

  front-long : length front ≡ n
  front-long = ap length front-is ∙ omega (arith, length-take n text, text-long, few)

  both-long : length text ≡ n + length back
  both-long = omega (arith, ap length joined, length-append front back, front-long)

  -- a character that is no digit stands in the second part
  module _ (some : 0 < length (before_digits back)) where
    pub behind-start : length (before_digits text) ≡ n + length (before_digits back)
    behind-start =
        let same : suffix_len is_ascii_digit text ≡ suffix_len is_ascii_digit back = ap (suffix_len is_ascii_digit) joined ∙ suffix-within is_ascii_digit front back (omega (arith, some, before-long back)) in
        omega (arith, before-long text, before-long back, both-long, same, suffix_len-le-length is_ascii_digit back)

    pub behind-digits : digits text ≡ digits back
    behind-digits =
        let place : length text - suffix_len is_ascii_digit text ≡ n + (length back - suffix_len is_ascii_digit back) = sym (before-long text) ∙ behind-start ∙ ap (λ k. n + k) (before-long back) in
        ap (λ k. drop k text) place
        ∙ sym (drop-drop (length back - suffix_len is_ascii_digit back) n text)
        ∙ ap (drop (length back - suffix_len is_ascii_digit back)) (sym back-is)

  -- the second part has digits alone
  module _ (none : length (before_digits back) ≡ 0) where
    whole : suffix_len is_ascii_digit back ≡ length back
    whole = omega (arith, none, before-long back, suffix_len-le-length is_ascii_digit back)

    across : suffix_len is_ascii_digit text ≡ length back + suffix_len is_ascii_digit front
    across = ap (suffix_len is_ascii_digit) joined ∙ suffix-through is_ascii_digit front back whole

    pub across-start : length (before_digits text) ≡ length (before_digits front)
    across-start = omega (arith, before-long text, before-long front, both-long, across, front-long)

    pub all-digits : digits back ≡ back
    all-digits = ap (λ k. drop k back) (sym (before-long back) ∙ none)

    pub across-digits : digits text ≡ digits front ++ back
    across-digits =
        let j = length front - suffix_len is_ascii_digit front in
        let place : length text - suffix_len is_ascii_digit text ≡ j = sym (before-long text) ∙ across-start ∙ before-long front in
        let before : j ≤ n = omega (arith, front-long) in
        let parted : drop j text ≡ drop j (take n text) ++ drop n text = same_lists _ _ (search (rules, places)) (λ i d less. grind (arith, places)) in
        ap (λ k. drop k text) place ∙ parted ∙ ap (λ t. drop j t ++ drop n text) (sym front-is) ∙ ap (λ t. digits front ++ t) (sym back-is)

    pub across-value : (size : ℕ) → length back ≡ size → digits_value 10 (digits text) ≡ digits_value 10 (digits front) * 10 ^ size + digits_value 10 (digits back)
    across-value size long =
        ap (digits_value 10) across-digits
        ∙ value-append (digits front) back
        ∙ ap (λ k. digits_value 10 (digits front) * 10 ^ k + digits_value 10 back) long
        ∙ ap (λ t. digits_value 10 (digits front) * 10 ^ size + digits_value 10 t) (sym all-digits)

-- a number of at most n digits is below 10 ^ n
pub below-power : (v k n : ℕ) → k ≤ n → v < 10 ^ k → v < 10 ^ n
below-power v k n few below =
    let base : 0 < 10 = omega arith in
    let most : 10 ^ k ≤ 10 ^ n = pow-le-pow_right base few in
    omega (arith, below, most)
