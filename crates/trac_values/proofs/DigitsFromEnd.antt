-- The digits at the end of a text, read from the last to the first.
use Rattle.trac_values.proofs.Imports.{◌≡◌, ℕ, ◌+◌, ◌-◌, ◌*◌, ◌^◌, ◌<◌, ◌≤◌, List, [], ◌∷◌, ◌++◌, length, drop, get_or, refl, ap, ◌∙◌, arith, digit_value, digits_value, digits_value_after, pow-le-pow_right, add-mul, mul_right_comm, mul_assoc, mul-le-mul_right, pow_more, drop_more, length-drop}

-- digits that follow those of a number
after_is : (n : ℕ) (ds : List ℕ) → digits_value_after 10 n ds ≡ n * 10 ^ length ds + digits_value 10 ds
after_is n [] = omega arith
after_is n (c ∷ cs) =
    let more : 10 ^ (length cs + 1) ≡ 10 ^ length cs * 10 = pow_more 10 (length cs) in
    let long : digits_value_after 10 (n * 10 + digit_value c) cs ≡ (n * 10 + digit_value c) * 10 ^ length cs + digits_value 10 cs = after_is (n * 10 + digit_value c) cs in
    let short : digits_value_after 10 (0 * 10 + digit_value c) cs ≡ (0 * 10 + digit_value c) * 10 ^ length cs + digits_value 10 cs = after_is (0 * 10 + digit_value c) cs in
    let P = 10 ^ length cs in
    let d = digit_value c in
    let left : (n * 10 + d) * P ≡ n * (P * 10) + d * P = add-mul (n * 10) d P ∙ ap (λ m. m + d * P) (mul_right_comm n 10 P ∙ mul_assoc n P 10) in
    let right : (0 * 10 + d) * P ≡ d * P = ap (λ m. m * P) (omega arith) in
    let goal_left : digits_value_after 10 n (c ∷ cs) ≡ n * (P * 10) + d * P + digits_value 10 cs = long ∙ ap (λ m. m + digits_value 10 cs) left in
    let goal_right : digits_value 10 (c ∷ cs) ≡ d * P + digits_value 10 cs = short ∙ ap (λ m. m + digits_value 10 cs) right in
    let power : n * 10 ^ (length cs + 1) ≡ n * (P * 10) = ap (λ m. n * m) more in
    let same : length cs + 1 ≡ length (c ∷ cs) = omega arith in
    let sum : n * (P * 10) + d * P + digits_value 10 cs ≡ n * 10 ^ (length cs + 1) + digits_value 10 (c ∷ cs) = omega (arith, goal_right, power) in
    goal_left ∙ sum ∙ ap (λ k. n * 10 ^ k + digits_value 10 (c ∷ cs)) same

-- digits behind others
after-append : (n : ℕ) (xs ys : List ℕ) → digits_value_after 10 n (xs ++ ys) ≡ digits_value_after 10 (digits_value_after 10 n xs) ys
after-append n [] ys = refl
after-append n (x ∷ xs) ys = after-append (n * 10 + digit_value x) xs ys

pub value-append : (xs ys : List ℕ) → digits_value 10 (xs ++ ys) ≡ digits_value 10 xs * 10 ^ length ys + digits_value 10 ys
value-append xs ys = after-append 0 xs ys ∙ after_is (digits_value 10 xs) ys

front_digit : (c : ℕ) (cs : List ℕ) → digits_value 10 (c ∷ cs) ≡ digit_value c * 10 ^ length cs + digits_value 10 cs
front_digit c cs = let e = after_is (0 * 10 + digit_value c) cs in omega (arith, e)

-- the value of digits with one more digit before them
pub value_before : (text : List ℕ) (n d : ℕ) → 0 < n → n ≤ length text → digit_value (get_or text (n - 1) 0) ≡ d → digits_value 10 (drop (n - 1) text) ≡ digits_value 10 (drop n text) + d * 10 ^ (length text - n)
value_before text n d pos le is =
    let next : n - 1 + 1 ≡ n = omega arith in
    let whole : digits_value 10 (drop (n - 1) text) ≡ digits_value 10 (get_or text (n - 1) 0 ∷ drop (n - 1 + 1) text) = ap (digits_value 10) (drop_more text (n - 1) 0 (omega arith)) in
    let first = front_digit (get_or text (n - 1) 0) (drop (n - 1 + 1) text) in
    let rest : digits_value 10 (drop (n - 1 + 1) text) ≡ digits_value 10 (drop n text) = ap (λ k. digits_value 10 (drop k text)) next in
    let long : length (drop (n - 1 + 1) text) ≡ length text - n = length-drop (n - 1 + 1) text ∙ ap (λ k. length text - k) next in
    let power : digit_value (get_or text (n - 1) 0) * 10 ^ length (drop (n - 1 + 1) text) ≡ d * 10 ^ (length text - n) = ap (λ k. k * 10 ^ length (drop (n - 1 + 1) text)) is ∙ ap (λ k. d * 10 ^ k) long in
    omega (arith, whole, first, rest, power)

-- the value of at most 18 digits, with one more digit before them, fits in 64 bits
pub fits_before : (k v p d : ℕ) → k < 19 → p ≡ 10 ^ k → v < 10 ^ k → d < 10 → (d * p < 2 ^ 64) × (v + d * p < 2 ^ 64) × (p * 10 < 2 ^ 64) × (v + d * p < 10 ^ (k + 1)) × (p * 10 ≡ 10 ^ (k + 1))
fits_before k v p d lt is below digit =
    let base : 0 < 10 = omega arith in
    let le : k ≤ 18 = omega arith in
    let most : 10 ^ k ≤ 1000000000000000000 = pow-le-pow_right base le in
    let more : 10 ^ (k + 1) ≡ 10 ^ k * 10 = pow_more 10 k in
    let nine : d * p ≤ 9 * p = mul-le-mul_right p (omega arith) in
    (omega arith, omega arith, omega arith, omega arith, omega arith)
