-- Numbers of any length, read digit by digit within bounds.
use Rattle.trac_values.proofs.Imports.{◌≡◌, ℕ, ◌+◌, ◌-◌, ◌*◌, ◌/◌, ◌%◌, ◌<◌, min, pos, neg_ℤ, sym, ap, ◌∙◌, refl, arith, ⊎_elim, mod-add-mod, mod-eq_of_lt, Bool, true, false, ◌+ℤ◌, if◌then◌else◌, digits_value, cases_Bool, int_rem_euclid, mul-mod_first, mod_below, div-add-mod', ints}
use Rattle.trac_values.proofs.Imports.{int_rem_euclid_is, Text, before_digits, digits, ends_with, number}

-- the value of digits with one more digit, up to a limit
pub limited_more : (v c limit : ℕ) → min (min v limit * 10 + c) limit ≡ min (v * 10 + c) limit
limited_more v c limit = omega arith

-- the value of digits with one more digit, modulo a divisor
pub rest_more : (v c n : ℕ) → (v % n * 10 + c) % n ≡ (v * 10 + c) % n
rest_more v c n = sym (mod-add-mod (v % n * 10) n c) ∙ ap (λ m. (m + c) % n) (mul-mod_first v 10 n) ∙ mod-add-mod (v * 10) n c

-- a negative number modulo a divisor
pub rest_of_negated : (v n r : ℕ) → 0 < n → r ≡ v % n → 0 < r → int_rem_euclid (neg_ℤ (pos v)) (pos n) ≡ pos (n - r)
rest_of_negated v n r pos_n is above =
    let whole : neg_ℤ (pos v) +ℤ pos ((v / n + 1) * n) ≡ pos (n - r) = omega (arith, ints) in
    int_rem_euclid_is (neg_ℤ (pos v)) (pos n) n (v / n + 1) (n - r) pos_n refl whole ∙ ap pos (mod-eq_of_lt (omega (arith, div-add-mod', mod_below)))

pub rest_of_multiple : (v n : ℕ) → 0 < n → v % n ≡ 0 → int_rem_euclid (neg_ℤ (pos v)) (pos n) ≡ pos 0
rest_of_multiple v n pos_n is =
    let whole : neg_ℤ (pos v) +ℤ pos (v / n * n) ≡ pos 0 = omega (arith, div-add-mod', ints) in
    int_rem_euclid_is (neg_ℤ (pos v)) (pos n) n (v / n) 0 pos_n refl whole ∙ ap pos (mod-eq_of_lt pos_n)

-- the number of a text modulo a divisor, told by its digits and by what stands before them
module _ (t front back : Text) (n rest : ℕ) (pos_n : 0 < n) (before : front ≡ before_digits t) (after : back ≡ digits t) (is : rest ≡ digits_value 10 back % n) where
  as_number : (b : Bool) → ends_with 45 front ≡ b → number t ≡ (if b then neg_ℤ (pos (digits_value 10 back)) else pos (digits_value 10 back))
  as_number b e =
      ap (λ d. if ends_with 45 (before_digits t) then neg_ℤ (pos (digits_value 10 d)) else pos (digits_value 10 d)) (sym after)
      ∙ ap (λ m. if m then neg_ℤ (pos (digits_value 10 back)) else pos (digits_value 10 back)) (ap (ends_with 45) (sym before) ∙ e)

  pub rotation_minus : ends_with 45 front ≡ true → 0 < rest → int_rem_euclid (number t) (pos n) ≡ pos (n - rest)
  rotation_minus minus above = ap (λ z. int_rem_euclid z (pos n)) (as_number true minus) ∙ rest_of_negated (digits_value 10 back) n rest pos_n is above

  pub rotation_plain : ends_with 45 front ≡ false → int_rem_euclid (number t) (pos n) ≡ pos rest
  rotation_plain plain = ap (λ z. int_rem_euclid z (pos n)) (as_number false plain) ∙ ap pos (sym is)

  pub rotation_none : rest ≡ 0 → int_rem_euclid (number t) (pos n) ≡ pos rest
  rotation_none none =
      ⊎_elim
      (λ minus. ap (λ z. int_rem_euclid z (pos n)) (as_number true minus) ∙ rest_of_multiple (digits_value 10 back) n pos_n (sym is ∙ none) ∙ ap pos (sym none))
      rotation_plain
      (cases_Bool (ends_with 45 front))
