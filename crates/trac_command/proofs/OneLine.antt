-- Texts without a line feed, and how long a number's text is.
use Rattle.std.proofs.Common.{◌≡◌, ◌∙◌, ◌+◌, ◌≤◌, ◌<◌, ◌++◌, ◌∷◌, ◌%◌, ◌^◌, ◌==◌, ℕ, true, false, not, List, [], length, decimal, arith, refl}
use Rattle.std.proofs.lemmas.Bool.{ne_eqb}
use Rattle.std.proofs.lemmas.List.Folds.{list_all-append}
use Rattle.std.proofs.lemmas.Fmt.{decimal_by_steps_wide, length-decimal-le_wide}
use Rattle.trac_command.specs.Lines.{is_one_line}

pub one_line-append : (xs ys : List ℕ) → is_one_line xs ≡ true → is_one_line ys ≡ true → is_one_line (xs ++ ys) ≡ true
one_line-append xs ys a b = list_all-append (λ b. not (b == 10)) xs ys ∙ rw (a, b) refl

one_line-digit : (n : ℕ) → is_one_line ((48 + n) ∷ []) ≡ true
one_line-digit n =
    let other : ((48 + n) == 10) ≡ false = ne_eqb _ _ (λ e. omega arith) in
    rw other refl

pub one_line-decimal : (n : ℕ) → n < 10 ^ 64 → is_one_line (decimal n) ≡ true
one_line-decimal n small = decimal_by_steps_wide (λ _ ds. is_one_line ds ≡ true)
    (λ k _. one_line-digit k)
    (λ k ds _ front. one_line-append ds ((48 + k % 10) ∷ []) front (one_line-digit (k % 10))) n small

pub length-decimal_step : (n : ℕ) → n ≤ 18446744073709551616 → length (decimal n) ≤ 20
length-decimal_step n small = length-decimal-le_wide 20 n (omega arith) (omega arith) (omega arith)
