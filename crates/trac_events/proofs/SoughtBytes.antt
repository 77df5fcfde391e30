-- Bytes that are looked for, eight at once.
use Rattle.std.proofs.Common.{◌≡◌, ◌∙◌, ◌≤◌, ◌<◌, ◌+◌, ◌-◌, ◌*◌, ◌==◌, ℕ, zero, suc, Bool, true, false, List, [], ◌∷◌}
use Rattle.std.proofs.Common.{length, take, drop, get_or, slice_range, refl, sym, ap, arith, ⊎_elim, if◌then◌else◌}
use Rattle.std.specs.Prelude.{◌&&◌, ◌||◌, ◌^◌, not, bit_and, nat_le}
use Rattle.std.specs.List.{list_any}
use Rattle.std.specs.Slice.Scan.{digits_from, flag_word}
use Rattle.std.proofs.Math.ListN.{get_or-eq_default}
use Rattle.std.proofs.lemmas.Bool.{cases_lt, eq-eqb, false≢true}
use Rattle.std.proofs.lemmas.Grind.{get_or_default_zero}
use Rattle.std.proofs.lemmas.List.{get_or-drop, get_or-take}
use Rattle.std.proofs.lemmas.List.Folds.{list_any_none, list_any_at}
use Rattle.trac_space.proofs.ByteWords.{and_bytes, not-true, same_digits, same_flags}
use Rattle.trac_events.specs.ByteSearch.{is_apart, is_mark, len_before}

abbrev flag : Bool → ℕ
flag b = if b then 128 else 0

flag-small : (b : Bool) → flag b ≤ 128
flag-small true = omega arith
flag-small false = omega arith

flag-byte : (b : Bool) → flag b < 256
flag-byte true = omega arith
flag-byte false = omega arith

flag-both : (p q : Bool) → bit_and (flag p) (flag q) ≡ flag (p && q)
flag-both true true = refl
flag-both true false = refl
flag-both false true = refl
flag-both false false = refl

is-set : (b : Bool) → flag b ≡ 128 → b ≡ true
is-set true e = refl
is-set false e = absurd (omega arith)

-- bytes are flagged in two words where they are flagged in both
pub both-flagged : (p q : ℕ → Bool) → bit_and (flag_word p) (flag_word q) ≡ flag_word (λ k. p k && q k)
both-flagged p q =
    and_bytes (λ k. flag (p k)) (λ k. flag (q k)) (λ k. flag-byte (p k)) (λ k. flag-byte (q k))
    ∙ same_digits _ _ (λ k. flag-both (p k) (q k))

top-digits : (f : ℕ → ℕ) → ((j : ℕ) → f j ≤ 128) → (n k : ℕ) → digits_from f k n ≡ digits_from (λ _. 128) k n
    → (j : ℕ) → k ≤ j → j < k + n → f j ≡ 128
top-digits f small zero k e j a b = absurd (omega arith)
top-digits f small (suc n) k e j a b =
    let least = small k in
    ⊎_elim (λ less. (let same : j ≡ k = omega arith in ap f same ∙ omega arith))
    (λ more. top-digits f small n (suc k) (omega arith) j more (omega arith)) (cases_lt j (suc k))

all-set : (p : ℕ → Bool) → flag_word p ≡ 0x8080_8080_8080_8080 → (k : ℕ) → k < 8 → p k ≡ true
all-set p e k less = is-set (p k) (top-digits (λ j. flag (p j)) (λ j. flag-small (p j)) 8 0 e k (omega arith) less)

set-all : (p : ℕ → Bool) → ((k : ℕ) → k < 8 → p k ≡ true) → flag_word p ≡ 0x8080_8080_8080_8080
set-all p all = same_flags p (λ _. true) all

equal-numbers : (a b : ℕ) → (a == b) ≡ true → a ≡ b
equal-numbers a b e = grind (arith, e)

-- a byte is looked for exactly if not all flags are set, where these say that none is
decided : (any : Bool) (p : ℕ → Bool) (x : ℕ) → x ≡ flag_word p → (((k : ℕ) → k < 8 → p k ≡ true) → any ≡ false)
    → (any ≡ false → (k : ℕ) → k < 8 → p k ≡ true) → not (x == 0x8080_8080_8080_8080) ≡ any
decided false p x x_is none all = ap not (eq-eqb _ _ (x_is ∙ set-all p (all refl)))
decided true p x x_is none all =
    ap not (not-true _ (λ e. false≢true (sym (none (all-set p (sym x_is ∙ equal-numbers _ _ e))))))

not-false : (b : Bool) → not b ≡ true → b ≡ false
not-false true e = absurd (false≢true e)
not-false false e = refl

each-of : (a b c d : Bool) → (a && b) && (c && d) ≡ true → (a ≡ true) × ((b ≡ true) × ((c ≡ true) × (d ≡ true)))
each-of true true true true e = (refl, (refl, (refl, refl)))
each-of true true true false e = absurd (false≢true e)
each-of true true false d e = absurd (false≢true e)
each-of true false c d e = absurd (false≢true e)
each-of false b c d e = absurd (false≢true e)

module _ (wants : ℕ → Bool) (text : List ℕ) where
  abbrev other : ℕ → Bool
  other k = not (wants (get_or text k 0))

  none-of : ((k : ℕ) → k < length text → other k ≡ true) → list_any wants text ≡ false
  none-of all = list_any_none wants text (λ i d within. ap wants (get_or_default_zero text i d within)
      ∙ not-false _ (all i within))

  others-of : list_any wants text ≡ false → (k : ℕ) → k < length text → other k ≡ true
  others-of none k less = ap not (not-true _ (λ e. false≢true (sym none ∙ list_any_at wants text k 0 less e)))

  -- whether one of eight bytes is looked for
  pub in-word : (x : ℕ) → length text ≡ 8 → x ≡ flag_word other
      → not (x == 0x8080_8080_8080_8080) ≡ list_any wants text
  in-word x long x_is =
      decided (list_any wants text) other x x_is (λ all. none-of (λ k less. all k (omega (arith, less, long))))
      (λ none k less. others-of none k (omega (arith, less, long)))

  -- whether one of thirty-two bytes is looked for
  pub in-block : (x : ℕ) → length text ≡ 32
      → x ≡ flag_word (λ k. (other k && other (8 + k)) && (other (16 + k) && other (24 + k)))
      → not (x == 0x8080_8080_8080_8080) ≡ list_any wants text
  in-block x long x_is =
      decided (list_any wants text) _ x x_is
      (λ all. none-of (λ k less. at all k (omega (arith, less, long))))
      (λ none k less.
      let each = λ (j : ℕ) (within : j < 32). others-of none j (omega (arith, within, long)) in
      (λ i. (each k (omega (arith, less)) i && each (8 + k) (omega (arith, less)) i) &&
      (each (16 + k) (omega (arith, less)) i && each (24 + k) (omega (arith, less)) i)))
    where
      parts : (k : ℕ) → (other k && other (8 + k)) && (other (16 + k) && other (24 + k)) ≡ true
          → (other k ≡ true) × ((other (8 + k) ≡ true) × ((other (16 + k) ≡ true) × (other (24 + k) ≡ true)))
      parts k is = each-of (other k) (other (8 + k)) (other (16 + k)) (other (24 + k)) is

      moved : (j k : ℕ) → j ≡ k → other j ≡ true → other k ≡ true
      moved j k same is = ap other (sym same) ∙ is

      at : ((k : ℕ) → k < 8 → (other k && other (8 + k)) && (other (16 + k) && other (24 + k)) ≡ true) → (k : ℕ)
          → k < 32 → other k ≡ true
      at all k less =
          ⊎_elim (λ a. (parts k (all k a)).0)
          (λ a. ⊎_elim (λ b. moved (8 + (k - 8)) k (omega (arith, a))
          (parts (k - 8) (all (k - 8) (omega (arith, a, b)))).1.0)
          (λ b. ⊎_elim (λ e. moved (16 + (k - 16)) k (omega (arith, b))
          (parts (k - 16) (all (k - 16) (omega (arith, b, e)))).1.1.0)
          (λ e. moved (24 + (k - 24)) k (omega (arith, e))
          (parts (k - 24) (all (k - 24) (omega (arith, e, less)))).1.1.1) (cases_lt k 24)) (cases_lt k 16))
          (cases_lt k 8)

-- a byte of a part
pub byte-of : (text : List ℕ) (a b j : ℕ) → j < b - a → get_or (slice_range text a b) j 0 ≡ get_or text (a + j) 0
byte-of text a b j less = get_or-take (b - a) (drop a text) j 0 less ∙ get_or-drop a text j 0

-- a front is no longer than it may be
pub length_take : (n : ℕ) (xs : List ℕ) → length (take n xs) ≤ n
length_take zero xs = omega arith
length_take (suc n) [] = omega arith
length_take (suc n) (x ∷ xs) = omega (arith, length_take n xs)

-- a byte of a part is a byte
pub part-byte : (text : List ℕ) (a b : ℕ) → ((i : ℕ) → get_or text i 0 < 256) → (k : ℕ)
    → get_or (slice_range text a b) k 0 < 256
part-byte text a b small k =
    ⊎_elim (λ less. omega (arith, byte-of text a b k less, small (a + k)))
    (λ more. omega (
      arith,
      get_or-eq_default (slice_range text a b) 0 {n = k}
          (omega (arith, more, length_take (b - a) (drop a text))),
    )) (cases_lt k (b - a))

-- the flags of eight bytes from a place of a text on
pub part-flagged : (wants : ℕ → Bool) (text : List ℕ) (a b x : ℕ) → 8 ≤ b - a
    → x ≡ flag_word (λ k. not (wants (get_or (slice_range text a b) k 0)))
    → x ≡ flag_word (λ k. not (wants (get_or text (a + k) 0)))
part-flagged wants text a b x long is = is
    ∙ same_flags _ _ (λ k less. ap (λ c. not (wants c)) (byte-of text a b k (omega (arith, less, long))))

-- the flags of four words
pub four-flagged : (p q r s : ℕ → Bool) (x y z w : ℕ) → x ≡ flag_word p → y ≡ flag_word q → z ≡ flag_word r
    → w ≡ flag_word s
    → bit_and (bit_and x y) (bit_and z w) ≡ flag_word (λ k. (p k && q k) && (r k && s k))
four-flagged p q r s x y z w x_is y_is z_is w_is =
    (λ i. bit_and (bit_and (x_is i) (y_is i)) (bit_and (z_is i) (w_is i)))
    ∙ (λ i. bit_and (both-flagged p q i) (both-flagged r s i))
    ∙ both-flagged (λ k. p k && q k) (λ k. r k && s k)

-- whether one of thirty-two bytes is looked for, by the flags of each eight
pub in-parts : (wants : ℕ → Bool) (text : List ℕ) (x y z w : ℕ) → length text ≡ 32
    → x ≡ flag_word (λ k. not (wants (get_or (slice_range text 0 8) k 0)))
    → y ≡ flag_word (λ k. not (wants (get_or (slice_range text 8 16) k 0)))
    → z ≡ flag_word (λ k. not (wants (get_or (slice_range text 16 24) k 0)))
    → w ≡ flag_word (λ k. not (wants (get_or (slice_range text 24 (length text)) k 0)))
    → not (bit_and (bit_and x y) (bit_and z w) == 0x8080_8080_8080_8080) ≡ list_any wants text
in-parts wants text x y z w long x_is y_is z_is w_is =
    let other = λ (k : ℕ). not (wants (get_or text k 0)) in
    in-block wants text _ long
    (four-flagged other (λ k. other (8 + k)) (λ k. other (16 + k)) (λ k. other (24 + k)) x y z w
    (part-flagged wants text 0 8 x (omega arith) x_is) (part-flagged wants text 8 16 y (omega arith) y_is)
    (part-flagged wants text 16 24 z (omega arith) z_is)
    (part-flagged wants text 24 (length text) w (omega (arith, long)) w_is))

neither : (a b : Bool) → (a || b) ≡ false → (a ≡ false) × (b ≡ false)
neither true b e = absurd (false≢true (sym e))
neither false b e = (refl, e)

-- what is looked for stands behind the bytes that aren't
pub len-behind : (wants : ℕ → Bool) (n : ℕ) (text : List ℕ) → n ≤ length text → list_any wants (take n text) ≡ false
    → len_before wants text ≡ n + len_before wants (drop n text)
len-behind wants zero text few none = omega arith
len-behind wants (suc n) [] few none = absurd (omega arith)
len-behind wants (suc n) (c ∷ text) few none =
    let parts = neither (wants c) (list_any wants (take n text)) none in
    ap (λ t. if t then 0 else suc (len_before wants text)) parts.0
    ∙ omega (arith, len-behind wants n text (omega (arith, few)) parts.1)

no-mark : (a b d : Bool) → (not a && not b) && not d ≡ not (a || (b || d))
no-mark true b d = refl
no-mark false true d = refl
no-mark false false d = refl

-- bytes are no marks where they are no colon, no number sign and no parenthesis
pub three-flagged : (f : ℕ → ℕ) (x y z : ℕ) → x ≡ flag_word (λ k. not (f k == 58))
    → y ≡ flag_word (λ k. not (f k == 35)) → z ≡ flag_word (λ k. not (f k == 40))
    → bit_and (bit_and x y) z ≡ flag_word (λ k. not (is_mark (f k)))
three-flagged f x y z x_is y_is z_is =
    (λ i. bit_and (bit_and (x_is i) (y_is i)) (z_is i))
    ∙ ap (λ w. bit_and w (flag_word (λ k. not (f k == 40))))
    (both-flagged (λ k. not (f k == 58)) (λ k. not (f k == 35)))
    ∙ both-flagged (λ k. not (f k == 58) && not (f k == 35)) (λ k. not (f k == 40))
    ∙ same_flags _ _ (λ k less. no-mark (f k == 58) (f k == 35) (f k == 40))

-- ---- bytes that are no ASCII

abbrev each_below : ℕ → (ℕ → Bool) → Bool
each_below zero t = true
each_below (suc n) t = t n && each_below n t

tried : (n : ℕ) (t : ℕ → Bool) → each_below n t ≡ true → (b : ℕ) → b < n → t b ≡ true
tried zero t e b less = absurd (omega arith)
tried (suc n) t e b less = by (t n) refl e (tried n t)
  where
    by : (x : Bool) → t n ≡ x → (x && each_below n t) ≡ true
        → (each_below n t ≡ true → (c : ℕ) → c < n → t c ≡ true) → t b ≡ true
    by true p q rest = ⊎_elim (λ below. rest q b below) (λ more. (let same : b ≡ n = omega arith in ap t same ∙ p))
        (cases_lt b n)
    by false p q rest = absurd (false≢true q)

narrow-bit : (p : Bool) (y : ℕ) → y < 256 → bit_and (flag p) (255 - y) ≡ flag (p && not (nat_le 128 y))
narrow-bit true y less = equal-numbers _ _
    (tried 256 (λ x. bit_and 128 (255 - x) == flag (not (nat_le 128 x))) refl y less)
narrow-bit false y less = equal-numbers _ _ (tried 256 (λ x. bit_and 0 (255 - x) == 0) refl y less)

no-apart : (a b : Bool) → not a && not b ≡ not (a || b)
no-apart true b = refl
no-apart false b = refl

turned-sum : (f : ℕ → ℕ) → ((k : ℕ) → f k < 256) → (n k : ℕ)
    → digits_from (λ j. 255 - f j) k n + digits_from f k n ≡ digits_from (λ _. 255) k n
turned-sum f small zero k = refl
turned-sum f small (suc n) k =
    let here = small k in
    let later = turned-sum f small n (suc k) in
    omega (arith, here, later)

-- all bits of a word, turned round
turned-word : (f : ℕ → ℕ) (x : ℕ) → ((k : ℕ) → f k < 256) → x ≡ digits_from f 0 8
    → 2 ^ 64 - 1 - x ≡ digits_from (λ k. 255 - f k) 0 8
turned-word f x small x_is = by (digits_from (λ k. 255 - f k) 0 8) (digits_from f 0 8) (turned-sum f small 8 0) x_is
  where
    by : (a b : ℕ) → a + b ≡ 18446744073709551615 → x ≡ b → 18446744073709551615 - x ≡ a
    by a b sum is = omega (arith, sum, is)

-- bytes take a column each where they are no line feed, and ASCII
pub apart-flagged : (f : ℕ → ℕ) (x y : ℕ) → ((k : ℕ) → f k < 256) → x ≡ digits_from f 0 8
    → y ≡ flag_word (λ k. not (f k == 10))
    → bit_and y (2 ^ 64 - 1 - x) ≡ flag_word (λ k. not (is_apart (f k)))
apart-flagged f x y small x_is y_is =
    let turned : 2 ^ 64 - 1 - x ≡ digits_from (λ k. 255 - f k) 0 8 = turned-word f x small x_is in
    (λ i. bit_and (y_is i) (turned i))
    ∙ and_bytes (λ k. flag (not (f k == 10))) (λ k. 255 - f k) (λ k. flag-byte (not (f k == 10))) (λ k. omega arith)
    ∙ same_digits _ _ (λ k. narrow-bit (not (f k == 10)) (f k) (small k)
    ∙ ap flag (no-apart (f k == 10) (nat_le 128 (f k))))
