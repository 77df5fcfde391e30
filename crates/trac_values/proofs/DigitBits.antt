-- The bits of octal digits, and operations on them, digit by digit.
use Rattle.trac_values.proofs.Imports.{◌≡◌, ℕ, zero, suc, ◌+◌, ◌-◌, ◌*◌, ◌/◌, ◌%◌, ◌^◌, ◌<◌, ◌≤◌, Bool, true, false, not, ◌&&◌, ◌||◌, [], ◌∷◌, ◌++◌, length, map, drop, replicate, get_or, refl, sym, ap, ◌∙◌, arith, eqb, max, min, Some, None, flat_map, bit_and, bit_or, bit_xor, slice_get}
use Rattle.trac_values.proofs.Imports.{length-append, length-map, length-replicate, length-drop, get_or_append_left, get_or-drop, get_or-map, flat_map-append, agree_below, agree_below_at, eqb-true, nat_tests, slice_get-get_or, slice_get_past, Text, Bits, is_octal, octal_digit, octal, bits_of_digit}
use Rattle.trac_values.proofs.Imports.{bitwise, padded, cut, union, intersection, complement, padded_text}
use Rattle.trac_values.proofs.OctalDigits.{length-octal, octal_at, length-bits_of}

-- the bits of the digit 0
zeros : (r : ℕ) → false ≡ get_or (bits_of_digit 48) r false
zeros zero = refl
zeros (suc zero) = refl
zeros (suc (suc zero)) = refl
zeros (suc (suc (suc r))) = refl

-- a bit of a string is a bit of one of its digits
pub bit_in : (t : Text) (q r : ℕ) → r < 3 → get_or (flat_map bits_of_digit t) (3 * q + r) false ≡ get_or (bits_of_digit (get_or t q 48)) r false
bit_in [] q r h = zeros r
bit_in (c ∷ t) zero r h =
    let e : 3 * 0 + r ≡ r = omega arith in
    ap (λ i. get_or (bits_of_digit c ++ flat_map bits_of_digit t) i false) e ∙ get_or_append_left (bits_of_digit c) (flat_map bits_of_digit t) false r h
bit_in (c ∷ t) (suc q) r h =
    let e : 3 * suc q + r ≡ suc (suc (suc (3 * q + r))) = omega arith in
    ap (λ i. get_or (flat_map bits_of_digit (c ∷ t)) i false) e ∙ bit_in t q r h

-- the digit whose bits are made of those of two digits
abbrev digit_by : (Bool → Bool → Bool) → ℕ → ℕ → ℕ
digit_by f x y = octal_digit (f (get_or (bits_of_digit x) 0 false) (get_or (bits_of_digit y) 0 false)) (f (get_or (bits_of_digit x) 1 false) (get_or (bits_of_digit y) 1 false)) (f (get_or (bits_of_digit x) 2 false) (get_or (bits_of_digit y) 2 false))

-- a digit told by its three bits
pub digit_of_bits : (l : Bits) (k : ℕ) (a b c : Bool) → 3 * k + 2 < length l → get_or l (3 * k) false ≡ a → get_or l (3 * k + 1) false ≡ b → get_or l (3 * k + 2) false ≡ c → slice_get (octal l) k ≡ Some (octal_digit a b c)
digit_of_bits l k a b c h ea eb ec =
    slice_get-get_or (octal l) k 0 (omega (arith, length-octal))
    ∙ ap Some
    (octal_at l k (omega (arith, length-octal))
    ∙ ap (λ x. octal_digit x (get_or l (3 * k + 1) false) (get_or l (3 * k + 2) false)) ea
    ∙ ap (λ x. octal_digit a x (get_or l (3 * k + 2) false)) eb
    ∙ ap (octal_digit a b) ec)

-- no octal digit of bits stands past the last
pub no_digit : (l : Bits) (k : ℕ) → length l ≤ 3 * k → slice_get (octal l) k ≡ None
no_digit l k h = let long = length-octal l in slice_get_past (octal l) k (omega arith)

get_or-bitwise : (f : Bool → Bool → Bool) (p q : Bits) (i : ℕ) → i < length p → i < length q → get_or (bitwise f p q) i false ≡ f (get_or p i false) (get_or q i false)
get_or-bitwise f [] q i h g = absurd (omega arith)
get_or-bitwise f (a ∷ p) [] i h g = absurd (omega arith)
get_or-bitwise f (a ∷ p) (b ∷ q) zero h g = refl
get_or-bitwise f (a ∷ p) (b ∷ q) (suc i) h g = get_or-bitwise f p q i (omega arith) (omega arith)

pub length-bitwise : (f : Bool → Bool → Bool) (p q : Bits) → length p ≡ length q → length (bitwise f p q) ≡ length p
length-bitwise f [] q e = refl
length-bitwise f (a ∷ p) [] e = absurd (omega arith)
length-bitwise f (a ∷ p) (b ∷ q) e = ap suc (length-bitwise f p q (omega arith))

-- an operation on the bits of texts of one length
bitwise_digit : (f : Bool → Bool → Bool) (t u : Text) (k : ℕ) → length t ≡ length u → k < length t → slice_get (octal (bitwise f (flat_map bits_of_digit t) (flat_map bits_of_digit u))) k ≡ Some (digit_by f (get_or t k 48) (get_or u k 48))
bitwise_digit f t u k same h =
    let lt = length-bits_of t in
    let lu = length-bits_of u in
    let p = flat_map bits_of_digit t in
    let q = flat_map bits_of_digit u in
    let long = length-bitwise f p q (omega arith) in
    let at : (r : ℕ) → r < 3 → get_or (bitwise f p q) (3 * k + r) false ≡ f (get_or (bits_of_digit (get_or t k 48)) r false) (get_or (bits_of_digit (get_or u k 48)) r false) =
    λ r small. get_or-bitwise f p q (3 * k + r) (omega arith) (omega arith) ∙ ap (λ x. f x (get_or q (3 * k + r) false)) (bit_in t k r small) ∙ ap (f (get_or (bits_of_digit (get_or t k 48)) r false)) (bit_in u k r small) in
    let e : 3 * k ≡ 3 * k + 0 = omega arith in
    digit_of_bits (bitwise f p q) k _ _ _ (omega arith) (ap (λ i. get_or (bitwise f p q) i false) e ∙ at 0 (omega arith)) (at 1 (omega arith)) (at 2 (omega arith))

-- digits filled up or cut at the left
zero_digits : (j : ℕ) → replicate (3 * j) false ≡ flat_map bits_of_digit (replicate j 48)
zero_digits zero = refl
zero_digits (suc j) =
    let e : 3 * suc j ≡ suc (suc (suc (3 * j))) = omega arith in
    ap (λ n. replicate n false) e ∙ ap (λ l. false ∷ false ∷ false ∷ l) (zero_digits j)

padded_digits : (long : ℕ) (t : Text) → padded (3 * long) (flat_map bits_of_digit t) ≡ flat_map bits_of_digit (padded_text long t)
padded_digits long t =
    let e : 3 * long - length (flat_map bits_of_digit t) ≡ 3 * (long - length t) = omega (arith, length-bits_of) in
    ap (λ n. replicate n false ++ flat_map bits_of_digit t) e
    ∙ ap (λ l. l ++ flat_map bits_of_digit t) (zero_digits (long - length t))
    ∙ sym (flat_map-append bits_of_digit (replicate (long - length t) 48) t)

drop_digits : (j : ℕ) (t : Text) → drop (3 * j) (flat_map bits_of_digit t) ≡ flat_map bits_of_digit (drop j t)
drop_digits zero t = refl
drop_digits (suc j) [] = let e : 3 * suc j ≡ suc (3 * j + 2) = omega arith in ap {B = Bits} (λ n. drop n []) e
drop_digits (suc j) (c ∷ t) =
    let e : 3 * suc j ≡ suc (suc (suc (3 * j))) = omega arith in
    ap (λ n. drop n (flat_map bits_of_digit (c ∷ t))) e ∙ drop_digits j t

-- tests of all pairs of octal digits
abbrev all_pairs : (ℕ → ℕ → Bool) → Bool
all_pairs p = agree_below (λ x. agree_below (λ y. p (48 + x) (48 + y)) (λ _. true) 8) (λ _. true) 8

is_octal_range : (x : ℕ) → is_octal x ≡ true → (48 ≤ x) × (x < 56)
is_octal_range x h = grind (arith, nat_tests)

pair_passes : (p : ℕ → ℕ → Bool) → all_pairs p ≡ true → (x y : ℕ) → is_octal x ≡ true → is_octal y ≡ true → p x y ≡ true
pair_passes p all x y ox oy =
    let rx = is_octal_range x ox in
    let ry = is_octal_range y oy in
    let ex : 48 + (x - 48) ≡ x = omega arith in
    let ey : 48 + (y - 48) ≡ y = omega arith in
    let row = agree_below_at (λ x. agree_below (λ y. p (48 + x) (48 + y)) (λ _. true) 8) (λ _. true) 8 (x - 48) all (omega arith) in
    let here = agree_below_at (λ y. p (48 + (x - 48)) (48 + y)) (λ _. true) 8 (y - 48) row (omega arith) in
    ap (λ x'. p x' y) (sym ex) ∙ ap (p (48 + (x - 48))) (sym ey) ∙ here

or_digit : (x y : ℕ) → is_octal x ≡ true → is_octal y ≡ true → digit_by ◌||◌ x y ≡ bit_or x y
or_digit x y ox oy = eqb-true _ _ (pair_passes (λ x y. eqb (digit_by ◌||◌ x y) (bit_or x y)) refl x y ox oy)

and_digit : (x y : ℕ) → is_octal x ≡ true → is_octal y ≡ true → digit_by ◌&&◌ x y ≡ bit_and x y
and_digit x y ox oy = eqb-true _ _ (pair_passes (λ x y. eqb (digit_by ◌&&◌ x y) (bit_and x y)) refl x y ox oy)

not_digit : (x : ℕ) → is_octal x ≡ true → octal_digit (not (get_or (bits_of_digit x) 0 false)) (not (get_or (bits_of_digit x) 1 false)) (not (get_or (bits_of_digit x) 2 false)) ≡ bit_xor x 7
not_digit x ox = eqb-true _ _ (pair_passes (λ x y. eqb (octal_digit (not (get_or (bits_of_digit x) 0 false)) (not (get_or (bits_of_digit x) 1 false)) (not (get_or (bits_of_digit x) 2 false))) (bit_xor x 7)) refl x x ox ox)

-- a bit of a digit, read by a mask
bit_by_mask : (x r : ℕ) → is_octal x ≡ true → r < 3 → not (eqb (bit_and x (4 / 2 ^ r)) 0) ≡ get_or (bits_of_digit x) r false
bit_by_mask x r ox small =
    let range = is_octal_range x ox in
    let e : 48 + (x - 48) ≡ x = omega arith in
    let below : x - 48 < 8 = omega arith in
    ap (λ x. not (eqb (bit_and x (4 / 2 ^ r)) 0)) (sym e) ∙ at r (x - 48) small below ∙ ap (λ x. get_or (bits_of_digit x) r false) e
  where
    at : (r x : ℕ) → r < 3 → x < 8 → not (eqb (bit_and (48 + x) (4 / 2 ^ r)) 0) ≡ get_or (bits_of_digit (48 + x)) r false
    at zero x small below = agree_below_at (λ x. not (eqb (bit_and (48 + x) (4 / 2 ^ 0)) 0)) (λ x. get_or (bits_of_digit (48 + x)) 0 false) 8 x refl below
    at (suc zero) x small below = agree_below_at (λ x. not (eqb (bit_and (48 + x) (4 / 2 ^ 1)) 0)) (λ x. get_or (bits_of_digit (48 + x)) 1 false) 8 x refl below
    at (suc (suc zero)) x small below = agree_below_at (λ x. not (eqb (bit_and (48 + x) (4 / 2 ^ 2)) 0)) (λ x. get_or (bits_of_digit (48 + x)) 2 false) 8 x refl below
    at (suc (suc (suc r))) x small below = absurd (omega arith)

-- the bit at a place, read from its digit
pub bit_read : (t : Text) (place x : ℕ) → x ≡ get_or t (place / 3) 48 → is_octal x ≡ true → not (eqb (bit_and x (4 / 2 ^ (place % 3))) 0) ≡ get_or (flat_map bits_of_digit t) place false
bit_read t place x is ox =
    let e : 3 * (place / 3) + place % 3 ≡ place = omega arith in
    bit_by_mask x (place % 3) ox (omega arith)
    ∙ ap (λ x. get_or (bits_of_digit x) (place % 3) false) is
    ∙ sym (bit_in t (place / 3) (place % 3) (omega arith))
    ∙ ap (λ i. get_or (flat_map bits_of_digit t) i false) e

length-padded_text : (long : ℕ) (t : Text) → length t ≤ long → length (padded_text long t) ≡ long
length-padded_text long t le = omega (arith, length-append (replicate (long - length t) 48) t, length-replicate {A = ℕ} (long - length t) 48)

module _ (t u : Text) where
  -- the union of two bit strings
  module _ (long : ℕ) (is : long ≡ max (length t) (length u)) where
    union_is : union (flat_map bits_of_digit t) (flat_map bits_of_digit u) ≡ bitwise ◌||◌ (flat_map bits_of_digit (padded_text long t)) (flat_map bits_of_digit (padded_text long u))
    union_is =
        let p = flat_map bits_of_digit t in
        let q = flat_map bits_of_digit u in
        let et : length u - length t ≡ long - length t = omega arith in
        let eu : length t - length u ≡ long - length u = omega arith in
        let left : padded (length q) p ≡ flat_map bits_of_digit (padded_text long t) = ap (λ n. padded n p) (length-bits_of u) ∙ padded_digits (length u) t ∙ ap (λ n. flat_map bits_of_digit (replicate n 48 ++ t)) et in
        let right : padded (length p) q ≡ flat_map bits_of_digit (padded_text long u) = ap (λ n. padded n q) (length-bits_of t) ∙ padded_digits (length t) u ∙ ap (λ n. flat_map bits_of_digit (replicate n 48 ++ u)) eu in
        ap (λ l. bitwise ◌||◌ l (padded (length p) q)) left ∙ ap (bitwise ◌||◌ (flat_map bits_of_digit (padded_text long t))) right

    pub union_at : (k x y : ℕ) → k < long → x ≡ get_or (padded_text long t) k 48 → y ≡ get_or (padded_text long u) k 48 → is_octal x ≡ true → is_octal y ≡ true → slice_get (octal (union (flat_map bits_of_digit t) (flat_map bits_of_digit u))) k ≡ Some (bit_or x y)
    union_at k x y h ex ey ox oy =
        ap (λ l. slice_get (octal l) k) union_is
        ∙ bitwise_digit ◌||◌ (padded_text long t) (padded_text long u) k (omega (arith, length-padded_text)) (omega (arith, length-padded_text))
        ∙ ap Some (ap (λ x. digit_by ◌||◌ x (get_or (padded_text long u) k 48)) (sym ex) ∙ ap (digit_by ◌||◌ x) (sym ey) ∙ or_digit x y ox oy)

    pub union_past : (k : ℕ) → long ≤ k → slice_get (octal (union (flat_map bits_of_digit t) (flat_map bits_of_digit u))) k ≡ None
    union_past k h =
        let p = flat_map bits_of_digit (padded_text long t) in
        let q = flat_map bits_of_digit (padded_text long u) in
        ap (λ l. slice_get (octal l) k) union_is ∙ no_digit (bitwise ◌||◌ p q) k (omega (arith, length-padded_text, length-bits_of, length-bitwise))

  -- the intersection of two bit strings
  module _ (short : ℕ) (is : short ≡ min (length t) (length u)) where
    intersection_is : intersection (flat_map bits_of_digit t) (flat_map bits_of_digit u) ≡ bitwise ◌&&◌ (flat_map bits_of_digit (drop (length t - short) t)) (flat_map bits_of_digit (drop (length u - short) u))
    intersection_is =
        let p = flat_map bits_of_digit t in
        let q = flat_map bits_of_digit u in
        let et : length p - length q ≡ 3 * (length t - short) = omega (arith, length-bits_of) in
        let eu : length q - length p ≡ 3 * (length u - short) = omega (arith, length-bits_of) in
        let left : cut (length q) p ≡ flat_map bits_of_digit (drop (length t - short) t) = ap (λ n. drop n p) et ∙ drop_digits (length t - short) t in
        let right : cut (length p) q ≡ flat_map bits_of_digit (drop (length u - short) u) = ap (λ n. drop n q) eu ∙ drop_digits (length u - short) u in
        ap (λ l. bitwise ◌&&◌ l (cut (length p) q)) left ∙ ap (bitwise ◌&&◌ (flat_map bits_of_digit (drop (length t - short) t))) right

    pub intersection_at : (k x y : ℕ) → k < short → x ≡ get_or t (k + length t - short) 48 → y ≡ get_or u (k + length u - short) 48 → is_octal x ≡ true → is_octal y ≡ true → slice_get (octal (intersection (flat_map bits_of_digit t) (flat_map bits_of_digit u))) k ≡ Some (bit_and x y)
    intersection_at k x y h ex ey ox oy =
        let lt = length-drop (length t - short) t in
        let lu = length-drop (length u - short) u in
        let et : k + length t - short ≡ length t - short + k = omega arith in
        let eu : k + length u - short ≡ length u - short + k = omega arith in
        let at_t : get_or (drop (length t - short) t) k 48 ≡ x = get_or-drop (length t - short) t k 48 ∙ ap (λ i. get_or t i 48) (sym et) ∙ sym ex in
        let at_u : get_or (drop (length u - short) u) k 48 ≡ y = get_or-drop (length u - short) u k 48 ∙ ap (λ i. get_or u i 48) (sym eu) ∙ sym ey in
        ap (λ l. slice_get (octal l) k) intersection_is
        ∙ bitwise_digit ◌&&◌ (drop (length t - short) t) (drop (length u - short) u) k (omega arith) (omega arith)
        ∙ ap Some (ap (λ x. digit_by ◌&&◌ x (get_or (drop (length u - short) u) k 48)) at_t ∙ ap (digit_by ◌&&◌ x) at_u ∙ and_digit x y ox oy)

    pub intersection_past : (k : ℕ) → short ≤ k → slice_get (octal (intersection (flat_map bits_of_digit t) (flat_map bits_of_digit u))) k ≡ None
    intersection_past k h =
        let p = flat_map bits_of_digit (drop (length t - short) t) in
        let q = flat_map bits_of_digit (drop (length u - short) u) in
        let lt = length-drop (length t - short) t in
        let lu = length-drop (length u - short) u in
        let lp = length-bits_of (drop (length t - short) t) in
        let lq = length-bits_of (drop (length u - short) u) in
        let lb = length-bitwise ◌&&◌ p q (omega arith) in
        ap (λ l. slice_get (octal l) k) intersection_is ∙ no_digit (bitwise ◌&&◌ p q) k (omega arith)

-- the complement of a bit string
pub complement_at : (t : Text) (k x : ℕ) → k < length t → x ≡ get_or t k 48 → is_octal x ≡ true → slice_get (octal (complement (flat_map bits_of_digit t))) k ≡ Some (bit_xor x 7)
complement_at t k x h is ox =
    let l = flat_map bits_of_digit t in
    let long = length-bits_of t in
    let lm = length-map l not in
    let e : 3 * k ≡ 3 * k + 0 = omega arith in
    let at : (r : ℕ) → r < 3 → get_or (map not l) (3 * k + r) false ≡ not (get_or (bits_of_digit x) r false) =
    λ r small. get_or-map not l (3 * k + r) false false (omega arith) ∙ ap not (bit_in t k r small ∙ ap (λ c. get_or (bits_of_digit c) r false) (sym is)) in
    digit_of_bits (map not l) k _ _ _ (omega arith) (ap (λ i. get_or (map not l) i false) e ∙ at 0 (omega arith)) (at 1 (omega arith)) (at 2 (omega arith)) ∙ ap Some (not_digit x ox)

pub complement_past : (t : Text) (k : ℕ) → length t ≤ k → slice_get (octal (complement (flat_map bits_of_digit t))) k ≡ None
complement_past t k h =
    let l = flat_map bits_of_digit t in
    let long = length-bits_of t in
    let lm = length-map l not in
    no_digit (map not l) k (omega arith)
