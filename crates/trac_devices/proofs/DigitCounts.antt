-- How many digits a number has.
use Rattle.std.proofs.Common.{◌≡◌, ℕ, suc, zero, ◌+◌, ◌*◌, ◌/◌, ◌%◌, ◌^◌, ◌<◌, ◌≤◌, [], ◌∷◌, length, ap, ◌∙◌, arith, decimal, length-append}
use Rattle.std.proofs.Math.Nat.{pow-suc}
use Rattle.std.proofs.lemmas.Fmt.{decimal_nonempty, decimal_step, length-decimal-le}

power-some : (k : ℕ) → 0 < 10 ^ k
power-some zero = omega arith
power-some (suc k) = omega (arith, power-some k, pow-suc 10 k)

longer : (k n : ℕ) → n < 2 ^ 64 → 10 ^ k ≤ n → suc k ≤ length (decimal n)
longer zero n small low = omega (arith, decimal_nonempty n small)
longer (suc k) n small low =
    let power = pow-suc 10 k in
    let many : 10 ≤ n = omega (arith, low, power, power-some k) in
    let fewer : 10 ^ k ≤ n / 10 = omega (arith, low, power) in
    let step = ap length (decimal_step n many small) ∙ length-append (decimal (n / 10)) ((48 + n % 10) ∷ []) in
    omega (arith, step, longer k (n / 10) (omega arith) fewer)

-- the digits of a number from 10 ^ k up to 10 ^ (k + 1)
pub length-decimal : (k low n : ℕ) → low ≡ 10 ^ k → low ≤ n → n < low * 10 → n < 2 ^ 64 → length (decimal n) ≡ suc k
length-decimal k low n is above below small =
    let power = pow-suc 10 k in
    let upper = length-decimal-le (suc k) n (omega arith) (omega (arith, is, below, power)) small in
    omega (arith, upper, longer k n small (omega (arith, is, above)))

pub one-digit : (n : ℕ) → n < 10 → length (decimal n) ≡ 1
one-digit n few = omega (arith, decimal_nonempty n (omega arith), length-decimal-le 1 n (omega arith) (omega arith) (omega arith))
