-- A count up to a limit takes the same characters of a form as the number itself.
use Rattle.trac_functions.proofs.Imports.{◌≡◌, ℕ, zero, suc, ◌≤◌, Bool, length, min, ℤ, pos, negsuc, ap, ◌∙◌, arith, int_lt, unsigned_abs, le-ltb, Form, text_of, before_pointer, after_pointer, characters, forward, backward, first_characters, last_characters, signed}

module _ (form : Form) (after : length (text_of (after_pointer form)) ≤ 16777216) (before : length (text_of (before_pointer form)) ≤ 16777216) where
  pub counted : (d : ℤ) (negative : Bool) (size : ℕ) → negative ≡ int_lt d (pos 0) → size ≡ min (unsigned_abs d) 16777216 → characters (signed negative size) form ≡ characters d form
  counted (pos zero) negative size sign is =
      let none : size ≡ 0 = omega arith in
      ap (λ b. characters (signed b size) form) sign ∙ ap (λ n. characters (pos n) form) none
  counted (pos (suc n)) negative zero sign is = absurd (omega arith)
  counted (pos (suc n)) negative (suc m) sign is =
      let taken : min (suc m) (length (text_of (after_pointer form))) ≡ min (suc n) (length (text_of (after_pointer form))) = omega arith in
      ap (λ b. characters (signed b (suc m)) form) (sign ∙ le-ltb (suc n) 0 (omega arith))
      ∙ ap (λ k. forward form (first_characters k (after_pointer form))) taken
  counted (negsuc n) negative zero sign is = absurd (omega arith)
  counted (negsuc n) negative (suc m) sign is =
      let taken : min (suc m) (length (text_of (before_pointer form))) ≡ min (suc n) (length (text_of (before_pointer form))) = omega arith in
      ap (λ b. characters (signed b (suc m)) form) sign
      ∙ ap (λ k. backward form (last_characters k (before_pointer form))) taken
