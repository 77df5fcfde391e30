-- Shifts and rotations of lists of bits, digit by digit.
use Rattle.trac_values.proofs.Imports.{◌≡◌, ℕ, suc, ◌+◌, ◌-◌, ◌*◌, ◌/◌, ◌%◌, ◌<◌, ◌≤◌, Bool, false, length, min, get_or, ℤ, pos, negsuc, neg_ℤ, Some, None, refl, sym, ap, ◌∙◌, arith, ⊎_elim, ◌+ℤ◌, slice_get, int_lt, unsigned_abs, int_rem_euclid, add-mod-mod, add-mod_left, mod-eq_of_lt, mod_below}
use Rattle.trac_values.proofs.Imports.{div-add-mod', ints, int_rem_euclid_is, cases_lt, le-ltb, ext_get_or, get_or_past, get_or-map-range_with_len, length-map-range_with_len, Bits, octal_digit, octal, bits_by, bit_at, shifted, rotated, signed}
use Rattle.trac_values.proofs.DigitBits.{digit_of_bits, no_digit}

module _ (f : ℕ → Bool) (n : ℕ) where
  by_at : (i : ℕ) → i < n → get_or (bits_by f n) i false ≡ f i
  by_at i h = get_or-map-range_with_len f 0 n i i false h (omega arith)

  -- a digit of the bits that a function gives
  pub by_digit : (k : ℕ) (a b c : Bool) → 3 * k + 2 < n → a ≡ f (3 * k) → b ≡ f (3 * k + 1) → c ≡ f (3 * k + 2) → slice_get (octal (bits_by f n)) k ≡ Some (octal_digit a b c)
  by_digit k a b c h ea eb ec =
      let long = length-map-range_with_len f 0 n in
      digit_of_bits (bits_by f n) k a b c (omega arith)
      (by_at (3 * k) (omega arith) ∙ sym ea)
      (by_at (3 * k + 1) (omega arith) ∙ sym eb)
      (by_at (3 * k + 2) (omega arith) ∙ sym ec)

  pub by_past : (k : ℕ) → n ≤ 3 * k → slice_get (octal (bits_by f n)) k ≡ None
  by_past k h = let long = length-map-range_with_len f 0 n in no_digit (bits_by f n) k (omega arith)

  -- two functions that give the same bits
  by_same : (g : ℕ → Bool) → ((i : ℕ) → i < n → f i ≡ g i) → bits_by f n ≡ bits_by g n
  by_same g same =
      let lf = length-map-range_with_len f 0 n in
      let lg = length-map-range_with_len g 0 n in
      ext_get_or false (bits_by f n) (bits_by g n) (omega arith)
      (λ i h. by_at i (omega arith) ∙ same i (omega arith) ∙ sym (get_or-map-range_with_len g 0 n i i false (omega arith) (omega arith)))

-- a shift by as many bits as there are, or by more
module _ (l : Bits) (limit i : ℕ) (room : length l ≤ limit) (within : i < length l) where
  far : (d : ℤ) (negative : Bool) (size : ℕ) → negative ≡ int_lt d (pos 0) → size ≡ min (unsigned_abs d) limit → bit_at l (pos i +ℤ signed negative size) ≡ bit_at l (pos i +ℤ d)
  far (pos e) negative size sign is =
      ap (λ b. bit_at l (pos i +ℤ signed b size)) (sign ∙ le-ltb e 0 (omega arith))
      ∙ ⊎_elim
      (λ above. get_or_past l (i + size) false (omega arith) ∙ sym (get_or_past l (i + e) false (omega arith)))
      (λ below. let same : size ≡ e = omega arith in ap (λ n. get_or l (i + n) false) same)
      (cases_lt limit e)
  far (negsuc e) negative size sign is =
      ap (λ b. bit_at l (pos i +ℤ signed b size)) sign
      ∙ ⊎_elim
      (λ above.
      let near : pos i +ℤ neg_ℤ (pos size) ≡ negsuc (size - 1 - i) = omega (arith, ints) in
      let away : pos i +ℤ negsuc e ≡ negsuc (e - i) = omega (arith, ints) in
      ap (bit_at l) near ∙ sym (ap (bit_at l) away))
      (λ below. let same : size ≡ suc e = omega arith in ap (λ n. bit_at l (pos i +ℤ neg_ℤ (pos n))) same)
      (cases_lt limit (suc e))

pub shift_same : (d : ℤ) (negative : Bool) (size limit : ℕ) (l : Bits) → length l ≤ limit → negative ≡ int_lt d (pos 0) → size ≡ min (unsigned_abs d) limit → shifted (signed negative size) l ≡ shifted d l
shift_same d negative size limit l room sign is =
    by_same (λ i. bit_at l (pos i +ℤ signed negative size)) (length l) (λ i. bit_at l (pos i +ℤ d)) (λ i within. far l limit i room within d negative size sign is)

-- a place moved by a number is moved by what is left of it
rest_moved : (i n r : ℕ) (d : ℤ) → 0 < n → int_rem_euclid d (pos n) ≡ pos r → int_rem_euclid (pos i +ℤ d) (pos n) ≡ pos ((i + r) % n)
rest_moved i n r (pos e) pos_n is =
    let same : e % n ≡ r = cc in
    ap pos (sym (add-mod-mod i e n)) ∙ ap (λ m. pos ((i + m) % n)) same
rest_moved i n r (negsuc e) pos_n is =
    let whole : pos i +ℤ negsuc e +ℤ pos ((e / n + 1) * n) ≡ pos (i + r) = omega (arith, div-add-mod', mod_below, ints) in
    int_rem_euclid_is (pos i +ℤ negsuc e) (pos n) n (e / n + 1) (i + r) pos_n refl whole

pub rotation_same : (d : ℤ) (r : ℕ) (l : Bits) → int_rem_euclid d (pos (length l)) ≡ pos r → rotated (pos r) l ≡ rotated d l
rotation_same d r l is =
    by_same (λ i. bit_at l (int_rem_euclid (pos i +ℤ pos r) (pos (length l)))) (length l) (λ i. bit_at l (int_rem_euclid (pos i +ℤ d) (pos (length l))))
    (λ i within. ap (bit_at l) (sym (rest_moved i (length l) r d (omega arith) is)))

-- a place less than two lengths away, modulo the length
pub wrapped : (m n : ℕ) → n ≤ m → m < n + n → m % n ≡ m - n
wrapped m n le lt =
    let e : n + (m - n) ≡ m = omega arith in
    ap (λ x. x % n) (sym e) ∙ add-mod_left n (m - n) ∙ mod-eq_of_lt (omega arith)
