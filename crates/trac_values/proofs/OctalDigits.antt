-- The digits of lists of bits, one by one.
use Rattle.trac_values.proofs.Imports.{◌≡◌, ℕ, zero, suc, ◌+◌, ◌*◌, ◌/◌, ◌<◌, false, [], ◌∷◌, length, get_or, refl, sym, ap, ◌∙◌, arith, flat_map, length-append, Text, Bits, octal_digit, octal, bits_of_digit}

-- how many digits there are
pub length-octal : (l : Bits) → length (octal l) ≡ length l / 3
length-octal [] = omega arith
length-octal (a ∷ []) = omega arith
length-octal (a ∷ b ∷ []) = omega arith
length-octal (a ∷ b ∷ c ∷ rest) = let e = length-octal rest in omega arith

-- the digit at a place has the three bits from three times that place on
pub octal_at : (l : Bits) (k : ℕ) → k < length (octal l) → get_or (octal l) k 0 ≡ octal_digit (get_or l (3 * k) false) (get_or l (3 * k + 1) false) (get_or l (3 * k + 2) false)
octal_at [] k h = absurd (omega arith)
octal_at (a ∷ []) k h = absurd (omega arith)
octal_at (a ∷ b ∷ []) k h = absurd (omega arith)
octal_at (a ∷ b ∷ c ∷ rest) zero h = refl
octal_at (a ∷ b ∷ c ∷ rest) (suc k) h =
    let l = a ∷ b ∷ c ∷ rest in
    let e0 : 3 * suc k ≡ suc (suc (suc (3 * k))) = omega arith in
    let e1 : 3 * suc k + 1 ≡ suc (suc (suc (3 * k + 1))) = omega arith in
    let e2 : 3 * suc k + 2 ≡ suc (suc (suc (3 * k + 2))) = omega arith in
    octal_at rest k (omega arith)
    ∙ ap (λ i. octal_digit (get_or l i false) (get_or rest (3 * k + 1) false) (get_or rest (3 * k + 2) false)) (sym e0)
    ∙ ap (λ i. octal_digit (get_or l (3 * suc k) false) (get_or l i false) (get_or rest (3 * k + 2) false)) (sym e1)
    ∙ ap (λ i. octal_digit (get_or l (3 * suc k) false) (get_or l (3 * suc k + 1) false) (get_or l i false)) (sym e2)

-- the bit strings of texts have three bits for each digit
pub length-bits_of : (t : Text) → length (flat_map bits_of_digit t) ≡ 3 * length t
length-bits_of [] = omega arith
length-bits_of (c ∷ t) = let e = length-bits_of t in omega (arith, length-append (bits_of_digit c) (flat_map bits_of_digit t))
