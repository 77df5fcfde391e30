-- Known bytes in front of a reader and behind a writer.
use Rattle.trac_devices.proofs.Imports.{Bool, IsSome, unwrap_or, ◌≡◌, ◌∙◌, ◌+◌, ◌-◌, ◌≤◌, ◌<◌, ◌++◌, ◌∷◌, ap, ap₂, refl, ℕ, List, [], get_or, length, take, drop, Option, Some, None, sym, arith, append_assoc, length-take, slice_range, Result, Ok, Err, OnErr, take-add, drop-append-le, drop-drop}
use Rattle.trac_devices.proofs.Imports.{drop-take, take-append-drop, take_all, length-drop, Text, set, drop-cons, between_is, take-put_mid, put_mid, Appends, Consumes, IsAtEnd, Keeps, append_known, prepend_known, BufferedInput, CountedReader, IfTells}

-- a part is its front and the rest
pub part_split : (xs : List ℕ) (a n b : ℕ) → a + n ≤ b → slice_range xs a b ≡ slice_range xs a (a + n) ++ slice_range xs (a + n) b
part_split xs a n b low =
    let m = b - (a + n) in
    let whole : b - a ≡ n + m = omega arith in
    let front : n ≡ a + n - a = omega arith in
    ap (λ k. take k (drop a xs)) whole ∙ take-add n m (drop a xs)
    ∙ ap₂ (λ (ys zs : List ℕ). ys ++ zs) (ap (λ k. take k (drop a xs)) front) (ap (take m) (drop-drop n a xs))

-- a part without its front
pub part_dropped : (xs : List ℕ) (a n b : ℕ) → a + n ≤ b → slice_range xs (a + n) b ≡ drop n (slice_range xs a b)
part_dropped xs a n b low =
    let m = b - (a + n) in
    let size : b - a ≡ n + m = omega arith in
    sym (ap (λ k. drop n (take k (drop a xs))) size ∙ drop-take n m (drop a xs) ∙ ap (take m) (drop-drop n a xs))

-- the part from a up to b grows by the n bytes that are written behind it
module _ (xs : List ℕ) (a b n : ℕ) (low : a ≤ b) (high : b ≤ length xs) where
  pub part_appended : (ys more : List ℕ) (k : ℕ) → ys ≡ more → length more ≡ n → k ≡ n
      → slice_range (put_mid b k xs ys) a (b + n) ≡ slice_range xs a b ++ more
  part_appended ys more k same size exact =
      let long : b + n ≡ b + length ys = omega (arith, ap length same) in
      let inside : a ≤ length (take b xs) = omega (arith, length-take b xs) in
      between_is (put_mid b k xs ys) a (b + n) ∙ ap (drop a) (take-put_mid b k xs ys (b + n) long high)
      ∙ drop-append-le a (take b xs) ys inside ∙ ap₂ (λ (us vs : List ℕ). us ++ vs) (sym (between_is xs a b)) same

pub consumes_kept : (a b d : Option (List ℕ)) (xs : List ℕ) → Keeps a b → Consumes b d xs → Consumes a d xs
consumes_kept None b d xs kept took = tt
consumes_kept (Some ys) None d xs kept took = absurd kept
consumes_kept (Some ys) (Some zs) None xs kept took = absurd took
consumes_kept (Some ys) (Some zs) (Some ws) xs kept took = sym kept ∙ took

pub consumes_front : (rest : Option (List ℕ)) (whole front back : List ℕ) → whole ≡ front ++ back
    → Consumes (prepend_known whole rest) (prepend_known back rest) front
consumes_front None whole front back e = tt
consumes_front (Some xs) whole front back e = ap (λ ys. ys ++ xs) e ∙ append_assoc front back xs

pub appends_kept : (a b d : Option (List ℕ)) (xs : List ℕ) → Keeps a b → Appends b d xs → Appends a d xs
appends_kept None b d xs kept took = tt
appends_kept (Some ys) None d xs kept took = absurd kept
appends_kept (Some ys) (Some zs) None xs kept took = absurd took
appends_kept (Some ys) (Some zs) (Some ws) xs kept took = took ∙ ap (λ vs. vs ++ xs) kept

pub appends_behind : (old : Option (List ℕ)) (before after more : List ℕ) → after ≡ before ++ more
    → Appends (append_known old before) (append_known old after) more
appends_behind None before after more e = tt
appends_behind (Some xs) before after more e = ap (λ ys. xs ++ ys) e ∙ sym (append_assoc xs before more)

-- what passed from those that wait to the writer
pub keeps_passed : (old new : Option (List ℕ)) (waiting front back : List ℕ) → Appends old new front → waiting ≡ front ++ back
    → Keeps (append_known old waiting) (append_known new back)
keeps_passed None new waiting front back took e = tt
keeps_passed (Some xs) None waiting front back took e = absurd took
keeps_passed (Some xs) (Some ys) waiting front back took e =
    ap (λ us. us ++ back) took ∙ append_assoc xs front back ∙ ap (λ us. xs ++ us) (sym e)

pub at_end : (rest : Option (List ℕ)) (waiting : List ℕ) → waiting ≡ [] → IsAtEnd rest → IsAtEnd (prepend_known waiting rest)
at_end None waiting none ended = tt
at_end (Some xs) waiting none ended = ap₂ (λ (ys zs : List ℕ). ys ++ zs) none ended

-- what stands behind a writer that keeps what was appended
pub appended_known : (old mid new : Option (List ℕ)) (xs : List ℕ) → Appends old mid xs → Keeps mid new → IsSome old
    → unwrap_or new [] ≡ unwrap_or old [] ++ xs
appended_known None mid new xs took kept some = absurd cc
appended_known (Some ys) None new xs took kept some = absurd took
appended_known (Some ys) (Some zs) None xs took kept some = absurd kept
appended_known (Some ys) (Some zs) (Some ws) xs took kept some = kept ∙ took

-- a property that holds also holds after an error
pub on_err : {T E P : Type 0} (r : Result T E) → P → OnErr r P
on_err (Ok x) p = tt
on_err (Err e) p = p

-- a byte written into a buffer of one byte is all of the buffer
pub one_given : (buf : List ℕ) (v : ℕ) → length buf ≡ 1 → take 1 (set buf 0 v) ≡ v ∷ []
one_given [] v one = absurd (omega arith)
one_given (x ∷ []) v one = refl
one_given (x ∷ y ∷ ys) v one = absurd (omega arith)

-- a part is its first byte and the rest
pub part_first : (xs : List ℕ) (a b : ℕ) → a < b → b ≤ length xs → slice_range xs a b ≡ (get_or xs a 0 ∷ []) ++ slice_range xs (a + 1) b
part_first xs a b some inside =
    let split = part_split xs a 1 b (omega arith) in
    let size : a + 1 - a ≡ 1 = omega arith in
    let here : a < length xs = omega arith in
    let one : slice_range xs a (a + 1) ≡ get_or xs a 0 ∷ [] = ap (λ k. take k (drop a xs)) size ∙ ap (take 1) (drop-cons xs a 0 here) in
    split ∙ ap (λ (ys : List ℕ). ys ++ slice_range xs (a + 1) b) one

-- what is read ahead is what is taken of it, and then the rest
pub taken_known : (held : List ℕ) (count : ℕ) (rest : Option (List ℕ)) (has_ended : Bool) → IfTells (prepend_known held rest) has_ended
    → unwrap_or (prepend_known held rest) [] ≡ take count held ++ unwrap_or (prepend_known (drop count held) rest) []
taken_known held count None has_ended tells = absurd tells
taken_known held count (Some more) has_ended tells =
    ap (λ (xs : List ℕ). xs ++ more) (sym (take-append-drop count held)) ∙ append_assoc (take count held) (drop count held) more

-- a reader behind a buffer gives up the front of what it holds
pub input_skipped : {R : Type 0} (device : CountedReader R) (xs : List ℕ) (a n b : ℕ) → a + n ≤ b
    → ◌≡◌ {A = BufferedInput R} (record { device = device; held = slice_range xs (a + n) b }) (record { device = device; held = drop n (slice_range xs a b) })
input_skipped {R} device xs a n b low = ap {B = BufferedInput R} (λ (held : List ℕ). record { device = device; held = held }) (part_dropped xs a n b low)

-- the part up to the end is all that is behind its first place
pub rest_is : (text rest : Text) (from end : ℕ) → rest ≡ slice_range text from end → end ≡ length text → rest ≡ drop from text
rest_is text rest from end is whole = is ∙ take_all (end - from) (drop from text) (omega (arith, whole, length-drop from text))
