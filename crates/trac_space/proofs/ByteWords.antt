-- Words of eight bytes, and what the operations on them say of each byte.
use Rattle.trac_space.proofs.Imports.{◌≡◌, ℕ, zero, suc, ◌+◌, ◌-◌, ◌*◌, ◌<◌, ◌≤◌, Bool, true, false, List, length, get_or, refl, sym, ap, ◌∙◌, arith, ◌==◌, if◌then◌else◌, ⊎_elim, cases_lt, list_any}
use Rattle.std.specs.Prelude.{◌^◌, ◌&&◌, not, bit_and, bit_or, bit_xor}
use Rattle.std.specs.Int.Bits.{xor_assoc, xor_self, xor_zero_l, xor_zero_r}
use Rattle.std.proofs.lemmas.Bool.{eq-eqb, false≢true}
use Rattle.std.proofs.lemmas.Grind.{get_or_default_zero}
use Rattle.std.proofs.lemmas.List.Folds.{list_any_none, list_any_at}
use Rattle.std.specs.Slice.Scan.{digits_from, flag_word}
use Rattle.std.proofs.lemmas.Nat.{and_block, or_block, xor_block, or_lt, xor_lt, and_le_r}

abbrev pub Bytes : (ℕ → ℕ) → Type 0
Bytes f = (k : ℕ) → f k < 256

-- an operation goes by the byte
module _ (o : ℕ → ℕ → ℕ) (zeros : o 0 0 ≡ 0) (block : (k a b r s : ℕ) → r < 2 ^ k → s < 2 ^ k → o (a * 2 ^ k + r) (b * 2 ^ k + s) ≡ o a b * 2 ^ k + o r s) where
  by_byte : (f g : ℕ → ℕ) → Bytes f → Bytes g → (n k : ℕ) → o (digits_from f k n) (digits_from g k n) ≡ digits_from (λ j. o (f j) (g j)) k n
  by_byte f g a b zero k = zeros
  by_byte f g a b (suc n) k =
      let x : f k + 256 * digits_from f (suc k) n ≡ digits_from f (suc k) n * 256 + f k = omega arith in
      let y : g k + 256 * digits_from g (suc k) n ≡ digits_from g (suc k) n * 256 + g k = omega arith in
      (λ i. o (x i) (y i)) ∙ block 8 _ _ _ _ (a k) (b k) ∙ omega (arith, by_byte f g a b n (suc k))

pub and_bytes : (f g : ℕ → ℕ) → Bytes f → Bytes g → bit_and (digits_from f 0 8) (digits_from g 0 8) ≡ digits_from (λ j. bit_and (f j) (g j)) 0 8
and_bytes f g a b = by_byte bit_and refl and_block f g a b 8 0

or_bytes : (f g : ℕ → ℕ) → Bytes f → Bytes g → bit_or (digits_from f 0 8) (digits_from g 0 8) ≡ digits_from (λ j. bit_or (f j) (g j)) 0 8
or_bytes f g a b = by_byte bit_or refl or_block f g a b 8 0

xor_bytes : (f g : ℕ → ℕ) → Bytes f → Bytes g → bit_xor (digits_from f 0 8) (digits_from g 0 8) ≡ digits_from (λ j. bit_xor (f j) (g j)) 0 8
xor_bytes f g a b = by_byte bit_xor refl xor_block f g a b 8 0

pub same_digits : (f g : ℕ → ℕ) → ((j : ℕ) → f j ≡ g j) → digits_from f 0 8 ≡ digits_from g 0 8
same_digits f g e = λ i. digits_from (λ j. e j i) 0 8

-- ---- facts of one byte, by trying each
abbrev each_below : ℕ → (ℕ → Bool) → Bool
each_below zero t = true
each_below (suc n) t = t n && each_below n t

abbrev flag : Bool → ℕ
flag b = if b then 128 else 0

abbrev other_flag : ℕ → ℕ
other_flag y = bit_and (bit_or (bit_and y 127 + 127) y) 128

tried : (n : ℕ) (t : ℕ → Bool) → each_below n t ≡ true → (b : ℕ) → b < n → t b ≡ true
tried zero t e b l = absurd (omega arith)
tried (suc n) t e b l = by (t n) refl e (tried n t)
  where
    by : (x : Bool) → t n ≡ x → (x && each_below n t) ≡ true → (each_below n t ≡ true → (c : ℕ) → c < n → t c ≡ true) → t b ≡ true
    by true p q rest = ⊎_elim (λ less. rest q b less) (λ more. (let same : b ≡ n = omega arith in ap t same ∙ p)) (cases_lt b n)
    by false p q rest = absurd (false≢true q)

equal-numbers : (a b : ℕ) → (a == b) ≡ true → a ≡ b
equal-numbers a b e = grind (arith, e)

same-numbers : (a b : ℕ) → a ≡ b → (a == b) ≡ true
same-numbers a b e = eq-eqb a b e

pub not-true : (b : Bool) → (b ≡ true → ⊥) → b ≡ false
not-true true h = absurd (h refl)
not-true false h = refl

same_tests : (s t : Bool) → (s ≡ true → t ≡ true) → (t ≡ true → s ≡ true) → s ≡ t
same_tests true t f g = sym (f refl)
same_tests false true f g = g refl
same_tests false false f g = refl

other_bit : (y : ℕ) → y < 256 → other_flag y ≡ flag (not (y == 0))
other_bit y l = equal-numbers _ _ (tried 256 (λ x. other_flag x == flag (not (x == 0))) refl y l)

no_difference : (a c : ℕ) → (bit_xor a c == 0) ≡ (a == c)
no_difference a c = same_tests _ _
    (λ h. same-numbers a c (sym (xor_zero_r a) ∙ ap (bit_xor a) (sym (xor_self c)) ∙ sym (xor_assoc a c c) ∙ ap (λ z. bit_xor z c) (equal-numbers _ 0 h) ∙ xor_zero_l c))
    (λ h. same-numbers _ 0 (ap (bit_xor a) (sym (equal-numbers a c h)) ∙ xor_self a))

pub others-flagged : (f : ℕ → ℕ) (c x : ℕ) → Bytes f → c < 256 → x ≡ digits_from f 0 8
    → bit_and (bit_or (bit_and (bit_xor x (c * 0x0101_0101_0101_0101)) 0x7f7f_7f7f_7f7f_7f7f + 0x7f7f_7f7f_7f7f_7f7f) (bit_xor x (c * 0x0101_0101_0101_0101))) 0x8080_8080_8080_8080 ≡ flag_word (λ k. not (f k == c))
others-flagged f c x small byte x_is =
    let spread : c * 0x0101_0101_0101_0101 ≡ digits_from (λ _. c) 0 8 = omega arith in
    let y = λ (k : ℕ). bit_xor (f k) c in
    let y_small : Bytes y = λ k. xor_lt 8 (f k) c (small k) byte in
    let differ : bit_xor x (c * 0x0101_0101_0101_0101) ≡ digits_from y 0 8 = (λ j. bit_xor (x_is j) (spread j)) ∙ xor_bytes f (λ _. c) small (λ _. byte) in
    let low = λ (k : ℕ). bit_and (y k) 127 in
    let sum = λ (k : ℕ). low k + 127 in
    let sum_small : Bytes sum = λ k. omega (arith, and_le_r (y k) 127) in
    let either = λ (k : ℕ). bit_or (sum k) (y k) in
    let either_small : Bytes either = λ k. or_lt 8 (sum k) (y k) (sum_small k) (y_small k) in
    let masked : bit_and (bit_xor x (c * 0x0101_0101_0101_0101)) 0x7f7f_7f7f_7f7f_7f7f ≡ digits_from low 0 8 = ap (λ w. bit_and w 0x7f7f_7f7f_7f7f_7f7f) differ ∙ and_bytes y (λ _. 127) y_small (λ _. omega arith) in
    let added : digits_from low 0 8 + 0x7f7f_7f7f_7f7f_7f7f ≡ digits_from sum 0 8 = omega arith in
    let joined = (λ j. bit_or ((ap (λ w. w + 0x7f7f_7f7f_7f7f_7f7f) masked ∙ added) j) (differ j)) ∙ or_bytes sum y sum_small y_small in
    ap (λ w. bit_and w 0x8080_8080_8080_8080) joined ∙ and_bytes either (λ _. 128) either_small (λ _. omega arith)
    ∙ same_digits _ _ (λ k. other_bit (y k) (y_small k) ∙ ap (λ t. flag (not t)) (no_difference (f k) c))

-- ---- sixteen bytes

same_below : (f g : ℕ → ℕ) (n k : ℕ) → ((j : ℕ) → j < k + n → f j ≡ g j) → digits_from f k n ≡ digits_from g k n
same_below f g zero k e = refl
same_below f g (suc n) k e =
    let here = e k (omega arith) in
    let later = same_below f g n (suc k) (λ j less. e j (omega arith)) in
    omega arith

pub same_flags : (p q : ℕ → Bool) → ((j : ℕ) → j < 8 → p j ≡ q j) → flag_word p ≡ flag_word q
same_flags p q e = same_below (λ k. flag (p k)) (λ k. flag (q k)) 8 0 (λ j less. ap flag (e j less))

top_digits : (f : ℕ → ℕ) → ((j : ℕ) → f j ≤ 128) → (n k : ℕ) → digits_from f k n ≡ digits_from (λ _. 128) k n → (j : ℕ) → k ≤ j → j < k + n → f j ≡ 128
top_digits f small zero k e j a b = absurd (omega arith)
top_digits f small (suc n) k e j a b =
    let least = small k in
    ⊎_elim (λ less. (let same : j ≡ k = omega arith in ap f same ∙ omega arith))
    (λ more. top_digits f small n (suc k) (omega arith) j more (omega arith)) (cases_lt j (suc k))

flag-both : (p q : Bool) → bit_and (flag p) (flag q) ≡ flag (p && q)
flag-both true true = refl
flag-both true false = refl
flag-both false true = refl
flag-both false false = refl

flag-small : (b : Bool) → flag b ≤ 128
flag-small true = omega arith
flag-small false = omega arith

flag-byte : (b : Bool) → flag b < 256
flag-byte true = omega arith
flag-byte false = omega arith

flag-set : (p q : Bool) → flag (p && q) ≡ 128 → (p ≡ true) × (q ≡ true)
flag-set true true e = (refl, refl)
flag-set true false e = absurd (omega arith)
flag-set false q e = absurd (omega arith)

not-false : (b : Bool) → not b ≡ true → b ≡ false
not-false true e = absurd (false≢true e)
not-false false e = refl

-- sixteen bytes are flagged where they are not the byte c, so c is among them exactly if a flag is missing
module _ (text : List ℕ) (c x y : ℕ) (long : length text ≡ 16) (x_is : x ≡ flag_word (λ k. not (get_or text k 0 == c))) (y_is : y ≡ flag_word (λ k. not (get_or text (8 + k) 0 == c))) where
  abbrev first : ℕ → Bool
  first k = not (get_or text k 0 == c)

  abbrev second : ℕ → Bool
  second k = not (get_or text (8 + k) 0 == c)

  both-flagged : bit_and x y ≡ digits_from (λ k. flag (first k && second k)) 0 8
  both-flagged =
      (λ i. bit_and (x_is i) (y_is i)) ∙ and_bytes (λ k. flag (first k)) (λ k. flag (second k)) (λ k. flag-byte (first k)) (λ k. flag-byte (second k))
      ∙ same_digits _ _ (λ k. flag-both (first k) (second k))

  -- if all flags are set, none of the bytes is c
  none-found : bit_and x y ≡ 0x8080_8080_8080_8080 → list_any (λ b. b == c) text ≡ false
  none-found all =
      let digits : digits_from (λ k. flag (first k && second k)) 0 8 ≡ digits_from (λ _. 128) 0 8 = sym both-flagged ∙ all in
      let set = λ (k : ℕ) (less : k < 8). flag-set (first k) (second k) (top_digits _ (λ j. flag-small (first j && second j)) 8 0 digits k (omega arith) less) in
      list_any_none (λ b. b == c) text (λ i d within.
      let same : get_or text i d ≡ get_or text i 0 = get_or_default_zero text i d within in
      ap (λ b. b == c) same ∙ ⊎_elim (λ less. not-false _ ((set i less).0))
      (λ more. (let behind : 8 + (i - 8) ≡ i = omega arith in ap (λ j. get_or text j 0 == c) (sym behind) ∙ not-false _ ((set (i - 8) (omega arith)).1))) (cases_lt i 8))

  -- if none of the bytes is c, all flags are set
  all-set : list_any (λ b. b == c) text ≡ false → bit_and x y ≡ 0x8080_8080_8080_8080
  all-set none =
      let other = λ (i : ℕ) (within : i < 16). not-true (get_or text i 0 == c) (λ e. false≢true (sym none ∙ list_any_at (λ b. b == c) text i 0 (omega arith) e)) in
      both-flagged ∙ same_below _ (λ _. 128) 8 0 (λ j less. (λ i. flag (not (other j (omega arith) i) && not (other (8 + j) (omega arith) i))))

  pub found : not (bit_and x y == 0x8080_8080_8080_8080) ≡ list_any (λ b. b == c) text
  found = by (list_any (λ b. b == c) text) refl
    where
      by : (any : Bool) → list_any (λ b. b == c) text ≡ any → not (bit_and x y == 0x8080_8080_8080_8080) ≡ any
      by false none = ap not (same-numbers _ _ (all-set none))
      by true some = ap not (not-true _ (λ e. false≢true (sym (none-found (equal-numbers _ _ e)) ∙ some)))
