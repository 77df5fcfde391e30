-- The front of a part of neutral, and the prefix of a text as its front.
use Rattle.trac_functions.proofs.Imports.{◌≡◌, ℕ, ◌+◌, ◌-◌, ◌≤◌, Bool, true, false, ◌||◌, cond, List, [], ◌++◌, length, take, drop, slice_range, All, sym, ap, ◌∙◌, subst, arith, append_assoc, eqb, length-append, append-nil, take-append-drop, take-append-le, take_all, take-map, All-take}
use Rattle.trac_functions.proofs.Imports.{suffix_len, is_ascii_digit, Text, prefix, digits, before_digits, without_sign, ends_with, octal_prefix, is_octal, Cell, text_of_cells, character_of, IsByte, IsTextPart, part_text}
use Rattle.trac_functions.proofs.CellRanges.{take-range}
use Rattle.trac_functions.proofs.ArgumentLemmas.{part-long}

-- a text that another begins with
pub record IsFront (front text : Text) : Type 0 where
  pub rest : Text
  pub whole : front ++ rest ≡ text

pub front-length : (front text : Text) → IsFront front text → length front ≤ length text
front-length front text is = omega (arith, length-append front is.rest, ap length is.whole)

-- the front of a text is the first n characters of the text, if it has n
pub front-is : (front text : Text) (n : ℕ) → IsFront front text → n ≡ length front → take n text ≡ front
front-is front text n is long =
    ap (λ t. take n t) (sym is.whole) ∙ take-append-le n front is.rest (omega arith) ∙ take_all n front (omega arith)

front-all : (text : Text) → IsFront text text
front-all text = record { rest = []; whole = append-nil text }

front-take : (n : ℕ) (text : Text) → IsFront (take n text) text
front-take n text = record { rest = drop n text; whole = take-append-drop n text }

front-front : (a b c : Text) → IsFront a b → IsFront b c → IsFront a c
front-front a b c left right =
    record { rest = left.rest ++ right.rest; whole = sym (append_assoc a left.rest right.rest) ∙ ap (λ t. t ++ right.rest) left.whole ∙ right.whole }

without_sign-front : (text : Text) → IsFront (without_sign text) text
without_sign-front text = go (ends_with 43 text || ends_with 45 text)
  where
    go : (b : Bool) → IsFront (cond b (take (length text - 1) text) text) text
    go true = front-take (length text - 1) text
    go false = front-all text

pub prefix-front : (text : Text) → IsFront (prefix text) text
prefix-front text = go (eqb (length (digits text)) 0)
  where
    go : (b : Bool) → IsFront (cond b text (without_sign (before_digits text))) text
    go true = front-all text
    go false = front-front (without_sign (before_digits text)) (before_digits text) text (without_sign-front (before_digits text)) (front-take (length text - suffix_len is_ascii_digit text) text)

pub octal_prefix-front : (text : Text) → IsFront (octal_prefix text) text
octal_prefix-front text = front-take (length text - suffix_len is_octal text) text

-- the front of a part that was read
module _ (cells : List Cell) (a b n : ℕ) (part : IsTextPart cells a b) (front : Text → Text) (is : (text : Text) → IsFront (front text) text) (read : Text) (same : read ≡ part_text cells a b) (long : n ≡ length (front read)) where
  size : n ≡ length (front (part_text cells a b))
  size = long ∙ ap (λ text. length (front text)) same

  pub inside : a + n ≤ b
  inside =
      let order = part.order in
      omega (arith, size, front-length _ _ (is (part_text cells a b)), part-long cells a b part)

  taken : take n (slice_range cells a b) ≡ slice_range cells a (a + n)
  taken = take-range cells a n b inside

  pub front-part : IsTextPart cells a (a + n)
  front-part =
      let le = inside in
      let within = part.within in
      record { order = omega arith; within = omega arith; bytes = subst (All IsByte) taken (All-take IsByte n (slice_range cells a b) part.bytes) }

  pub front-text : part_text cells a (a + n) ≡ front (part_text cells a b)
  front-text = ap text_of_cells (sym taken) ∙ sym (take-map character_of n (slice_range cells a b)) ∙ front-is _ _ n (is (part_text cells a b)) size
