-- What is left of texts, of blanks and of items, one step on.
use Rattle.std.proofs.Common.{suc, ◌≡◌, ◌∙◌, ◌<◌, ◌≤◌, ◌+◌, ◌-◌, ◌++◌, ap, sym, refl, ℕ, Bool, true, false, List, length, take, append_assoc, codes, Result, Ok, Err, arith}
use Rattle.std.specs.Prelude.{is_ok, MatchResult}
use Rattle.std.specs.Str.{IsUtf8, is_utf8}
use Rattle.std.proofs.lemmas.Bool.{le-leb, lt-leb}
use Rattle.std.proofs.lemmas.Str.{IsUtf8-from_is_utf8, is_utf8-from_IsUtf8}
use Rattle.trac_views.specs.Shown.{is_whole}
use Rattle.trac_views.specs.CallLines.{blanks_text}

-- fewer than n bytes don't begin with n bytes of UTF-8
pub whole_no : (n : ℕ) (bytes : List ℕ) → length bytes < n → false ≡ is_whole n bytes
unfolding is_whole
whole_no n bytes short = rw (lt-leb n (length bytes) short) refl

-- of at least n bytes, the first n are tested
pub whole_is : (n : ℕ) (bytes : List ℕ) (b : Bool) → n ≤ length bytes → b ≡ is_utf8 (take n bytes) → b ≡ is_whole n bytes
unfolding is_whole
whole_is n bytes b enough is = rw (le-leb n (length bytes) enough) is

-- what a parse of bytes as UTF-8 answers
pub utf8_test : {X Y : Type 0} (P : X → Type 0) (Q : Y → Type 0) (r : Result X Y) (bytes : List ℕ)
    → MatchResult r (λ s. P s × IsUtf8 bytes) (λ e. ¬ (IsUtf8 bytes) × Q e) → is_ok r ≡ is_utf8 bytes
utf8_test P Q (Ok s) bytes said = sym (is_utf8-from_IsUtf8 bytes said.1)
utf8_test P Q (Err e) bytes said = go (is_utf8 bytes) refl
  where
    go : (b : Bool) → is_utf8 bytes ≡ b → false ≡ is_utf8 bytes
    go true is = absurd (said.0 (IsUtf8-from_is_utf8 bytes is))
    go false is = sym is

-- the blanks of one more call stand behind `old`
pub indent_step : (old now new : List ℕ) (depth k : ℕ) → k < depth → now ++ blanks_text (depth - k) ≡ old ++ blanks_text depth
    → new ≡ now ++ codes "  " → new ++ blanks_text (depth - (k + 1)) ≡ old ++ blanks_text depth
indent_step old now new depth k low so_far is =
    let split : depth - k ≡ suc (depth - (k + 1)) = omega (arith, low) in
    ap (λ t. t ++ blanks_text (depth - (k + 1))) is ∙ append_assoc now (codes "  ") (blanks_text (depth - (k + 1)))
    ∙ sym (ap (λ n. now ++ blanks_text n) split) ∙ so_far
