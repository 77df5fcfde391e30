-- A number of more than nineteen digits in two pieces.
use Rattle.std.specs.Prelude.{◌/◌, ◌%◌, ◌-◌}
use Rattle.std.specs.Fmt.{decimal}
use Rattle.std.proofs.Math.Nat.{pow-suc, mul_assoc, div-add-mod, mod-lt, mul-lt-mul_of_pos_right}
use Rattle.std.proofs.lemmas.Nat.{div-mul-add, mod-mul-add}
use Rattle.std.proofs.lemmas.Fmt.{decimal_digit, decimal_step_wide}
use Rattle.std.proofs.Common.{to_z, of_z}
use Rattle.std.specs.Int.{w128}
use Rattle.trac_values.specs.Digits.{padded_text}
use Rattle.trac_functions.proofs.Imports.{◌≡◌, ◌≤◌, ◌<◌, ◌*◌, ◌^◌, ℕ, zero, suc, Bool, to_z-of_z, fits_signed_from_abs, ◌∷◌, ◌+◌, ◌++◌, [], ℤ, pos, negsuc, length, take, drop, false, true, refl, sym, ap, ◌∙◌, arith, signed, signed_decimal, int_lt, unsigned_abs, replicate, add-one, append-nil, append_assoc, length-append, cases_lt, ⊎_elim}
use Rattle.trac_language.specs.Text.{Text}

-- the last digits of a number, as many
abbrev padded : (digits n : ℕ) → Text
padded zero n = []
padded (suc k) n = padded k (n / 10) ++ (48 + n % 10) ∷ []

power-some : (k : ℕ) → 0 < 10 ^ k
power-some zero = omega arith
power-some (suc k) =
    let less = power-some k in
    let more = pow-suc 10 k in
    omega arith

-- a number of several digits is its last ones behind the number before them
joined : (k h l : ℕ) → 0 < h → l < 10 ^ k → h * 10 ^ k + l < 10 ^ 64 → decimal (h * 10 ^ k + l) ≡ decimal h ++ padded k l
joined zero h l some less bound =
    let same : h * 10 ^ 0 + l ≡ h = omega arith in
    ap decimal same ∙ sym (append-nil (decimal h))
joined (suc k) h l some less bound =
    let power = pow-suc 10 k in
    let product : h * 10 ^ suc k ≡ h * 10 ^ k * 10 = ap (λ p. h * p) power ∙ sym (mul_assoc h (10 ^ k) 10) in
    let more = div-add-mod l 10 in
    let digit = mod-lt l {m = 10} (omega arith) in
    let whole : h * 10 ^ suc k + l ≡ (h * 10 ^ k + l / 10) * 10 + l % 10 = omega (arith, product, more) in
    let some_more = mul-lt-mul_of_pos_right {m = 0} {n = h} {k = 10 ^ k} some (power-some k) in
    let front : (h * 10 ^ suc k + l) / 10 ≡ h * 10 ^ k + l / 10 = ap (λ n. n / 10) whole ∙ div-mul-add (h * 10 ^ k + l / 10) 10 (l % 10) digit in
    let last : (h * 10 ^ suc k + l) % 10 ≡ l % 10 = ap (λ n. n % 10) whole ∙ mod-mul-add (h * 10 ^ k + l / 10) 10 (l % 10) digit in
    let step = decimal_step_wide (h * 10 ^ suc k + l) (omega (arith, product, some_more)) bound in
    let before = joined k h (l / 10) some (omega (arith, power, more, less)) (omega (arith, whole, bound)) in
    step ∙ ap (λ n. decimal n ++ (48 + (h * 10 ^ suc k + l) % 10) ∷ []) front ∙ ap (λ d. decimal (h * 10 ^ k + l / 10) ++ (48 + d) ∷ []) last
    ∙ ap (λ t. t ++ (48 + l % 10) ∷ []) before ∙ append_assoc (decimal h) (padded k (l / 10)) ((48 + l % 10) ∷ [])

padded-none : (k : ℕ) → padded k 0 ≡ replicate k 48
padded-none zero = refl
padded-none (suc k) = ap (λ (t : Text). t ++ 48 ∷ []) (padded-none k) ∙ go k
  where
    go : (k : ℕ) → replicate {A = ℕ} k 48 ++ 48 ∷ [] ≡ 48 ∷ replicate k 48
    go zero = refl
    go (suc k) = ap (λ t. 48 ∷ t) (go k)

padded-short : (k l : ℕ) → l < 10 → padded (suc k) l ≡ padded_text (suc k) (decimal l)
padded-short k l few =
    let whole : 0 * 10 + l ≡ l = omega arith in
    let none : l / 10 ≡ 0 = ap (λ n. n / 10) (sym whole) ∙ div-mul-add 0 10 l few in
    let same : l % 10 ≡ l = ap (λ n. n % 10) (sym whole) ∙ mod-mul-add 0 10 l few in
    ap (λ n. padded k n ++ (48 + l % 10) ∷ []) none ∙ ap (λ n. padded k 0 ++ (48 + n) ∷ []) same ∙ ap (λ t. t ++ (48 + l) ∷ []) (padded-none k)
    ∙ go ∙ ap (padded_text (suc k)) (sym (decimal_digit l few))
  where
    go : replicate k 48 ++ (48 + l) ∷ [] ≡ padded_text (suc k) ((48 + l) ∷ [])
    go = ap (λ n. replicate n 48 ++ (48 + l) ∷ []) (let same : k ≡ suc k - 1 = omega arith in same)

padded-more : (k l : ℕ) → 10 ≤ l → l < 10 ^ 64 → padded k (l / 10) ≡ padded_text k (decimal (l / 10)) → padded (suc k) l ≡ padded_text (suc k) (decimal l)
padded-more k l many bound before =
    let step = decimal_step_wide l many bound in
    let digit = (48 + l % 10) ∷ [] in
    let longer : length (decimal l) ≡ suc (length (decimal (l / 10))) = ap length step ∙ length-append (decimal (l / 10)) digit ∙ add-one (length (decimal (l / 10))) in
    let fewer : k - length (decimal (l / 10)) ≡ suc k - length (decimal l) = omega (arith, longer) in
    ap (λ t. t ++ digit) before ∙ append_assoc (replicate (k - length (decimal (l / 10))) 48) (decimal (l / 10)) digit
    ∙ ap (λ t. replicate (k - length (decimal (l / 10))) 48 ++ t) (sym step) ∙ ap (λ n. replicate n 48 ++ decimal l) fewer

some-digits : (k l : ℕ) → 10 ≤ l → l / 10 < 10 ^ k → 0 < k
some-digits zero l many less =
    let more = div-add-mod l 10 in
    let digit = mod-lt l {m = 10} (omega arith) in
    absurd (omega (arith, less, more, digit, many))
some-digits (suc k) l many less = omega arith

-- the last digits are those of the number behind zeros
padded-zeros : (k l : ℕ) → 0 < k → l < 10 ^ k → l < 10 ^ 64 → padded k l ≡ padded_text k (decimal l)
padded-zeros zero l some less bound = absurd (omega (arith, some))
padded-zeros (suc k) l some less bound =
    let power = pow-suc 10 k in
    let more = div-add-mod l 10 in
    let fewer : l / 10 < 10 ^ k = omega (arith, power, more, less) in
    ⊎_elim (λ few. padded-short k l few)
    (λ many. padded-more k l many bound (padded-zeros k (l / 10) (some-digits k l many fewer) fewer (omega (arith, more, bound)))) (cases_lt l 10)

-- the zeros behind as many
pub zeros-left : (m n r : ℕ) → m ≡ r + n → take r (drop n (replicate {A = ℕ} m 48)) ≡ replicate r 48
zeros-left m n zero is = refl
zeros-left zero n (suc r) is = absurd (omega (arith, is))
zeros-left (suc m) zero (suc r) is = ap (λ (t : Text). 48 ∷ t) (zeros-left m zero r (omega (arith, is)))
zeros-left (suc m) (suc n) (suc r) is = zeros-left m n (suc r) (omega (arith, is))

in-two : (n : ℕ) → 10 ^ 19 ≤ n → n < 10 ^ 64 → decimal (n / 10 ^ 19) ++ padded_text 19 (decimal (n % 10 ^ 19)) ≡ decimal n
in-two n long bound =
    let parts = div-add-mod n (10 ^ 19) in
    let rest = mod-lt n {m = 10 ^ 19} (omega arith) in
    let whole : n / 10 ^ 19 * 10 ^ 19 + n % 10 ^ 19 ≡ n = omega (arith, parts) in
    let text = joined 19 (n / 10 ^ 19) (n % 10 ^ 19) (omega (arith, parts, rest, long)) rest (omega (arith, whole, bound)) in
    ap (λ t. decimal (n / 10 ^ 19) ++ t) (sym (padded-zeros 19 (n % 10 ^ 19) (omega arith) rest (omega (arith, rest)))) ∙ sym text ∙ ap decimal whole

with-minus : (n : ℕ) → 0 < n → signed_decimal (signed true n) ≡ 45 ∷ decimal n
with-minus zero some = absurd (omega (arith, some))
with-minus (suc n) some = refl

-- a number of more than nineteen digits is its last ones behind those before them with the sign
pub long-number : (number : ℤ) → 10 ^ 19 ≤ unsigned_abs number → unsigned_abs number < 10 ^ 64 → signed_decimal (signed (int_lt number (pos 0)) (unsigned_abs number / 10 ^ 19)) ++ padded_text 19 (decimal (unsigned_abs number % 10 ^ 19)) ≡ signed_decimal number
long-number (pos n) long bound =
    let none : int_lt (pos n) (pos 0) ≡ false = grind arith in
    ap (λ negative. signed_decimal (signed negative (n / 10 ^ 19)) ++ padded_text 19 (decimal (n % 10 ^ 19))) none ∙ in-two n long bound
long-number (negsuc m) long bound =
    let n = suc m in
    let parts = div-add-mod n (10 ^ 19) in
    let rest = mod-lt n {m = 10 ^ 19} (omega arith) in
    ap (λ t. t ++ padded_text 19 (decimal (n % 10 ^ 19))) (with-minus (n / 10 ^ 19) (omega (arith, parts, rest, long))) ∙ ap (λ t. 45 ∷ t) (in-two n long bound)

-- a sign and a size of 64 bits are a number of 128
pub signed-kept : (negative : Bool) (n : ℕ) → n < 2 ^ 64 → to_z w128 (of_z w128 (signed negative n)) ≡ signed negative n
signed-kept negative n few = to_z-of_z w128 (signed negative n) (fits_signed_from_abs w128 (signed negative n) (go negative n few))
  where
    go : (negative : Bool) (n : ℕ) → n < 2 ^ 64 → unsigned_abs (signed negative n) < 2 ^ 127
    go false n few = omega (arith, few)
    go true zero few = omega arith
    go true (suc n) few = omega (arith, few)
