-- Characters and gaps among the items of a form.
use Rattle.trac_functions.proofs.Imports.{◌≡◌, ℕ, zero, suc, ◌+◌, ◌-◌, ◌<◌, ◌≤◌, min, true, false, List, [], ◌∷◌, ◌++◌, length, take, drop, reverse, All, slice_range, get_or, refl, sym, ap, ◌∙◌, arith, append-nil, length-append, length-take, length-drop, length-reverse, get_or-drop}
use Rattle.trac_functions.proofs.Imports.{get_or-reverse, get_or-take, drop-drop, drop-take, take-append-drop, reverse-append, reverse-reverse, take-take, take-append_seam, take-add, drop-append_seam, length-between, Item, is_character, text_of, first_characters}
use Rattle.trac_functions.proofs.Imports.{used, body_at, Contents, character_at, gap_at, NonePasses, IsFirst, IsLast, characters-between, IsFirstOr}
use Rattle.trac_language.specs.declared.item.Item.TheVariants.{Byte, Gap}
use Rattle.trac_functions.proofs.PutCharacters.{with_text, used-with, with-both}

pub first_characters-none : (items : List Item) → first_characters 0 items ≡ []
first_characters-none [] = refl
first_characters-none (item ∷ items) = refl

-- the first m characters, and then the first n of what is left
pub first_characters-add : (items : List Item) (total m n : ℕ) → total ≡ m + n → first_characters total items ≡ first_characters m items ++ first_characters n (drop (length (first_characters m items)) items)
first_characters-add [] total m n e = refl
first_characters-add (item ∷ items) total zero n e = let same : total ≡ n = omega arith in ap (λ k. first_characters k (item ∷ items)) same
first_characters-add (item ∷ items) zero (suc m) n e = absurd (omega arith)
first_characters-add (Byte c ∷ items) (suc total) (suc m) n e = ap (λ t. Byte c ∷ t) (first_characters-add items total m n (omega arith))
first_characters-add (Gap k ∷ items) (suc total) (suc m) n e = ap (λ t. Gap k ∷ t) (first_characters-add items (suc total) (suc m) n e)

-- the characters that are taken are the items before a place
pub first_characters-take : (items : List Item) (n : ℕ) → first_characters n items ≡ take (length (first_characters n items)) items
first_characters-take [] n = refl
first_characters-take (item ∷ items) zero = refl
first_characters-take (Byte c ∷ items) (suc n) = ap (λ t. Byte c ∷ t) (first_characters-take items n)
first_characters-take (Gap k ∷ items) (suc n) = ap (λ t. Gap k ∷ t) (first_characters-take items (suc n))

pub first_characters-within : (items : List Item) (n : ℕ) → length (first_characters n items) ≤ length items
first_characters-within [] n = omega arith
first_characters-within (item ∷ items) zero = omega arith
first_characters-within (Byte c ∷ items) (suc n) = omega (arith, first_characters-within items n)
first_characters-within (Gap k ∷ items) (suc n) = omega (arith, first_characters-within items (suc n))

-- how many characters are taken
pub text_of-first : (items : List Item) (n : ℕ) → length (text_of (first_characters n items)) ≡ min n (length (text_of items))
text_of-first [] n = omega arith
text_of-first (item ∷ items) zero = omega arith
text_of-first (Byte c ∷ items) (suc n) = omega (arith, text_of-first items n)
text_of-first (Gap k ∷ items) (suc n) = text_of-first items (suc n)

pub text_of-append : (xs ys : List Item) → text_of (xs ++ ys) ≡ text_of xs ++ text_of ys
text_of-append [] ys = refl
text_of-append (Byte c ∷ xs) ys = ap (λ t. c ∷ t) (text_of-append xs ys)
text_of-append (Gap k ∷ xs) ys = text_of-append xs ys

pub length-text_of : (items : List Item) → length (text_of items) ≤ length items
length-text_of [] = omega arith
length-text_of (Byte c ∷ items) = omega (arith, length-text_of items)
length-text_of (Gap k ∷ items) = omega (arith, length-text_of items)

-- the characters taken and those that are left are all
pub characters-left : (items : List Item) (n : ℕ) → length (text_of items) ≡ min n (length (text_of items)) + length (text_of (drop (length (first_characters n items)) items))
characters-left items n =
    let k = length (first_characters n items) in
    let split = ap (λ t. length (text_of t)) (sym (take-append-drop (length (first_characters n items)) items)) ∙ ap length (text_of-append (take k items) (drop k items)) ∙ length-append (text_of (take k items)) (text_of (drop k items)) in
    let front = ap (λ t. length (text_of t)) (sym (first_characters-take items n)) ∙ text_of-first items n in
    omega arith

pub first-one : (items : List Item) (i : ℕ) → i < length items → is_character (get_or items i (Byte 0)) ≡ true → ((k : ℕ) → k < i → is_character (get_or items k (Byte 0)) ≡ false) → length (first_characters 1 items) ≡ i + 1
first-one [] i within passes before = absurd (omega arith)
first-one (Byte c ∷ items) zero within passes before = let none = ap length (first_characters-none items) in omega arith
first-one (Byte c ∷ items) (suc i) within passes before = absurd (let wrong = before 0 (omega arith) in cc)
first-one (Gap k ∷ items) zero within passes before = absurd cc
first-one (Gap k ∷ items) (suc i) within passes before =
    omega (arith, first-one items i (omega arith) passes (λ k lt. before (suc k) (omega arith)))

pub some-character : (items : List Item) (i : ℕ) → i < length items → is_character (get_or items i (Byte 0)) ≡ true → 0 < length (text_of items)
some-character [] i within passes = absurd (omega arith)
some-character (Byte c ∷ items) i within passes = omega arith
some-character (Gap k ∷ items) zero within passes = absurd cc
some-character (Gap k ∷ items) (suc i) within passes = some-character items i (omega arith) passes

pub no-character : (items : List Item) → ((k : ℕ) → k < length items → is_character (get_or items k (Byte 0)) ≡ false) → text_of items ≡ []
no-character [] none = refl
no-character (Byte c ∷ items) none = absurd (let wrong = none 0 (omega arith) in cc)
no-character (Gap k ∷ items) none = no-character items (λ k lt. none (suc k) (omega arith))

-- ---- forward

-- `taken` characters of a body were taken from `from` on, and `place` is behind them
pub record Forward (body : List Item) (from taken place : ℕ) : Type 0 where
  pub at : place ≡ from + length (first_characters taken (drop from body))
  pub there : taken ≤ length (text_of (drop from body))

pub forward-none : (body : List Item) (from : ℕ) → Forward body from 0 from
forward-none body from = record { at = let none = ap length (first_characters-none (drop from body)) in omega arith; there = omega arith }

module _ (body : List Item) (from taken place : ℕ) (within : from ≤ length body) (so : Forward body from taken place) where
  rest-is : drop (length (first_characters taken (drop from body))) (drop from body) ≡ drop place body
  rest-is = drop-drop (length (first_characters taken (drop from body))) from body ∙ ap (λ n. drop n body) (sym so.at)

  left-is : length (text_of (drop from body)) ≡ taken + length (text_of (drop place body))
  left-is =
      let all = characters-left (drop from body) taken in
      let same = ap (λ t. length (text_of t)) rest-is in
      let there = so.there in
      omega arith

  pub forward-within : place ≤ length body
  forward-within = let at = so.at in omega (arith, first_characters-within (drop from body) taken, length-drop from body)

  pub forward-more : (character : ℕ) → IsFirst (character_at body) place (length body) character → Forward body from (taken + 1) (character + 1)
  forward-more character first =
      let inside = first.within in
      let above = first.above in
      let i = character - place in
      let long = length-drop place body in
      let here : place + (character - place) ≡ character = omega arith in
      let passes : is_character (get_or (drop place body) i (Byte 0)) ≡ true = ap is_character (get_or-drop place body (character - place) (Byte 0)) ∙ ap (character_at body) here ∙ first.passes in
      let before : (k : ℕ) → k < character - place → is_character (get_or (drop place body) k (Byte 0)) ≡ false = λ k lt. ap is_character (get_or-drop place body k (Byte 0)) ∙ first.before (place + k) (omega arith) (omega arith) in
      let one = first-one (drop place body) i (omega arith) passes before in
      let some = some-character (drop place body) i (omega arith) passes in
      let left = left-is in
      let at = so.at in
      let added = ap length (first_characters-add (drop from body) (taken + 1) taken 1 refl) ∙ length-append (first_characters taken (drop from body)) (first_characters 1 (drop (length (first_characters taken (drop from body))) (drop from body))) in
      let same = ap (λ t. length (first_characters 1 t)) rest-is in
      record { at = omega arith; there = omega arith }

  pub forward-all : (count : ℕ) → min count (length (text_of (drop from body))) ≡ taken → place ≡ from + length (first_characters (min count (length (text_of (drop from body)))) (drop from body))
  forward-all count all = so.at ∙ ap (λ n. from + length (first_characters n (drop from body))) (sym all)

  pub forward-last : (count : ℕ) → taken ≤ count → NonePasses (character_at body) place (length body) → place ≡ from + length (first_characters (min count (length (text_of (drop from body)))) (drop from body))
  forward-last count le none =
      let long = length-drop place body in
      let nothing : text_of (drop place body) ≡ [] = no-character (drop place body) (λ k lt. ap is_character (get_or-drop place body k (Byte 0)) ∙ none (place + k) (omega arith) (omega arith)) in
      let zero_left = ap length nothing in
      let left = left-is in
      forward-all count (omega arith)

-- ---- backward

text_of-reverse : (items : List Item) → text_of (reverse items) ≡ reverse (text_of items)
text_of-reverse [] = refl
text_of-reverse (Byte c ∷ items) = ap text_of (reverse-append (Byte c ∷ []) items) ∙ text_of-append (reverse items) (Byte c ∷ []) ∙ ap (λ t. t ++ c ∷ []) (text_of-reverse items) ∙ sym (reverse-append (c ∷ []) (text_of items))
text_of-reverse (Gap k ∷ items) = ap text_of (reverse-append (Gap k ∷ []) items) ∙ text_of-append (reverse items) (Gap k ∷ []) ∙ append-nil (text_of (reverse items)) ∙ text_of-reverse items

pub length-text_of-reverse : (items : List Item) → length (text_of (reverse items)) ≡ length (text_of items)
length-text_of-reverse items = ap length (text_of-reverse items) ∙ length-reverse (text_of items)

-- the items before a place, seen from there, without the first
drop-reverse : (body : List Item) (to place : ℕ) → place ≤ to → to ≤ length body → drop (to - place) (reverse (take to body)) ≡ reverse (take place body)
drop-reverse body to place le within =
    let split : take to body ≡ take place body ++ drop place (take to body) = sym (take-append-drop place (take to body)) ∙ ap (λ t. t ++ drop place (take to body)) (take-take place to body le) in
    let tail = drop place (take to body) in
    let long : length (reverse tail) ≡ to - place = length-reverse tail ∙ length-drop place (take to body) ∙ ap (λ n. n - place) (length-take to body) ∙ omega arith in
    ap (λ t. drop (to - place) (reverse t)) split
    ∙ ap (drop (to - place)) (reverse-append (take place body) tail)
    ∙ ap (λ n. drop n (reverse tail ++ reverse (take place body))) (sym long)
    ∙ drop-append_seam (reverse tail) (reverse (take place body))

-- `taken` characters of a body were taken backward from `to` on, and `place` is before them
pub record Backward (body : List Item) (to taken place : ℕ) : Type 0 where
  pub at : place + length (first_characters taken (reverse (take to body))) ≡ to
  pub there : taken ≤ length (text_of (take to body))

pub backward-none : (body : List Item) (to : ℕ) → Backward body to 0 to
backward-none body to = record { at = let none = ap length (first_characters-none (reverse (take to body))) in omega arith; there = omega arith }

module _ (body : List Item) (to taken place : ℕ) (within : to ≤ length body) (so : Backward body to taken place) where
  behind-is : drop (length (first_characters taken (reverse (take to body)))) (reverse (take to body)) ≡ reverse (take place body)
  behind-is =
      let at = so.at in
      let n : length (first_characters taken (reverse (take to body))) ≡ to - place = omega arith in
      ap (λ n. drop n (reverse (take to body))) n ∙ drop-reverse body to place (omega arith) within

  behind-left : length (text_of (take to body)) ≡ taken + length (text_of (take place body))
  behind-left =
      let all = characters-left (reverse (take to body)) taken in
      let same = ap (λ t. length (text_of t)) behind-is ∙ length-text_of-reverse (take place body) in
      let total = length-text_of-reverse (take to body) in
      let there = so.there in
      omega arith

  -- the item at a place, seen from behind
  seen-back : (k : ℕ) → k < place → get_or (reverse (take place body)) k (Byte 0) ≡ get_or body (place - 1 - k) (Byte 0)
  seen-back k lt =
      let at = so.at in
      let long : length (take place body) ≡ place = length-take place body ∙ omega arith in
      get_or-reverse (take place body) k (Byte 0) (omega arith)
      ∙ ap (λ n. get_or (take place body) n (Byte 0)) (omega arith)
      ∙ get_or-take place body (place - 1 - k) (Byte 0) (omega arith)

  pub backward-more : (character : ℕ) → IsLast (character_at body) place character → Backward body to (taken + 1) character
  backward-more character last =
      let inside = last.within in
      let i = place - 1 - character in
      let at = so.at in
      let long : length (reverse (take place body)) ≡ place = length-reverse (take place body) ∙ length-take place body ∙ omega arith in
      let here : place - 1 - (place - 1 - character) ≡ character = omega arith in
      let passes : is_character (get_or (reverse (take place body)) (place - 1 - character) (Byte 0)) ≡ true = ap is_character (seen-back (place - 1 - character) (omega arith)) ∙ ap (character_at body) here ∙ last.passes in
      let before : (k : ℕ) → k < place - 1 - character → is_character (get_or (reverse (take place body)) k (Byte 0)) ≡ false = λ k lt. ap is_character (seen-back k (omega arith)) ∙ last.after (place - 1 - k) (omega arith) (omega arith) in
      let one = first-one (reverse (take place body)) (place - 1 - character) (omega arith) passes before in
      let some = some-character (reverse (take place body)) (place - 1 - character) (omega arith) passes in
      let some_here = length-text_of-reverse (take place body) in
      let left = behind-left in
      let added = ap length (first_characters-add (reverse (take to body)) (taken + 1) taken 1 refl) ∙ length-append (first_characters taken (reverse (take to body))) (first_characters 1 (drop (length (first_characters taken (reverse (take to body)))) (reverse (take to body)))) in
      let same = ap (λ t. length (first_characters 1 t)) behind-is in
      record { at = omega arith; there = omega arith }

  pub backward-last : (count : ℕ) → taken ≤ count → NonePasses (character_at body) 0 place → place + length (first_characters (min count (length (text_of (take to body)))) (reverse (take to body))) ≡ to
  backward-last count le none =
      let at = so.at in
      let long : length (reverse (take place body)) ≡ place = length-reverse (take place body) ∙ length-take place body ∙ omega arith in
      let nothing : text_of (reverse (take place body)) ≡ [] = no-character (reverse (take place body)) (λ k lt. ap is_character (seen-back k (omega arith)) ∙ none (place - 1 - k) (omega arith) (omega arith)) in
      let zero_left = ap length nothing in
      let zero_here = length-text_of-reverse (take place body) in
      let left = behind-left in
      let all : min count (length (text_of (take to body))) ≡ taken = omega arith in
      ap (λ n. place + length (first_characters n (reverse (take to body)))) all ∙ so.at

-- ---- parts of a body

-- the items that are taken forward
pub taken-forward : (body : List Item) (from n : ℕ) → from ≤ length body → first_characters n (drop from body) ≡ slice_range body from (from + length (first_characters n (drop from body)))
taken-forward body from n within =
    let k : from + length (first_characters n (drop from body)) - from ≡ length (first_characters n (drop from body)) = omega arith in
    first_characters-take (drop from body) n ∙ ap (λ k. take k (drop from body)) (sym k)

-- the items that are taken backward
pub taken-backward : (body : List Item) (to place n : ℕ) → to ≤ length body → place + length (first_characters n (reverse (take to body))) ≡ to → reverse (first_characters n (reverse (take to body))) ≡ slice_range body place to
taken-backward body to place n within at =
    let len = length (first_characters n (reverse (take to body))) in
    let k : length (first_characters n (reverse (take to body))) ≡ to - place = omega arith in
    let tail = drop place (take to body) in
    let split : take to body ≡ take place body ++ drop place (take to body) = sym (take-append-drop place (take to body)) ∙ ap (λ t. t ++ drop place (take to body)) (take-take place to body (omega arith)) in
    let long : length (reverse tail) ≡ to - place = length-reverse tail ∙ length-drop place (take to body) ∙ ap (λ n. n - place) (length-take to body) ∙ omega arith in
    let front : take (to - place) (reverse (take to body)) ≡ reverse tail =
    ap (λ t. take (to - place) (reverse t)) split ∙ ap (take (to - place)) (reverse-append (take place body) tail) ∙ ap (λ n. take n (reverse tail ++ reverse (take place body))) (sym long) ∙ take-append_seam (reverse tail) (reverse (take place body)) in
    let whole : to ≡ place + (to - place) = omega arith in
    ap reverse (first_characters-take (reverse (take to body)) n ∙ ap (λ k. take k (reverse (take to body))) k ∙ front)
    ∙ reverse-reverse tail
    ∙ ap (λ t. drop place (take t body)) whole ∙ drop-take place (to - place) body

-- a part is its beginning and what follows
pub range-split : (body : List Item) (a b c : ℕ) → a ≤ b → b ≤ c → slice_range body a c ≡ slice_range body a b ++ slice_range body b c
range-split body a b c ab bc =
    let e : c - a ≡ (b - a) + (c - b) = omega arith in
    let d : a + (b - a) ≡ b = omega arith in
    ap (λ n. take n (drop a body)) e
    ∙ take-add (b - a) (c - b) (drop a body)
    ∙ ap (λ t. slice_range body a b ++ take (c - b) t) (drop-drop (b - a) a body ∙ ap (λ n. drop n body) d)

pub text_of-split : (body : List Item) (a b c : ℕ) → a ≤ b → b ≤ c → text_of (slice_range body a c) ≡ text_of (slice_range body a b) ++ text_of (slice_range body b c)
text_of-split body a b c ab bc = ap text_of (range-split body a b c ab bc) ∙ text_of-append (slice_range body a b) (slice_range body b c)

range-at : (body : List Item) (a b k : ℕ) → k < b - a → get_or (slice_range body a b) k (Byte 0) ≡ get_or body (a + k) (Byte 0)
range-at body a b k lt = get_or-take (b - a) (drop a body) k (Byte 0) lt ∙ get_or-drop a body k (Byte 0)

-- gaps alone have no text
pub text_of-gaps : (body : List Item) (a b : ℕ) → b ≤ length body → NonePasses (character_at body) a b → text_of (slice_range body a b) ≡ []
text_of-gaps body a b within none =
    no-character (slice_range body a b) (λ k lt. let long = length-between body a b within in ap is_character (range-at body a b k (omega arith)) ∙ none (a + k) (omega arith) (omega arith))

-- characters alone are as many as their text
pub all-characters : (items : List Item) → All (λ item. is_character item ≡ true) items → length (text_of items) ≡ length items
all-characters [] all = refl
all-characters (Byte c ∷ items) all = ap suc (all-characters items (λ k d lt. all (suc k) d (omega arith)))
all-characters (Gap g ∷ items) all = absurd (let wrong = all 0 (Byte 0) (omega arith) in cc)

pub length-characters : (body : List Item) (a b : ℕ) → b ≤ length body → All (λ item. is_character item ≡ true) (slice_range body a b) → length (text_of (slice_range body a b)) ≡ b - a
length-characters body a b within all = all-characters (slice_range body a b) all ∙ length-between body a b within

-- ---- a run of characters

-- the text up to the first character is that character
pub first-character : (body : List Item) (from place : ℕ) → IsFirst (character_at body) from (length body) place → text_of (slice_range body from (place + 1)) ≡ text_of (slice_range body place (place + 1))
first-character body from place first =
    let above = first.above in
    let inside = first.within in
    text_of-split body from place (place + 1) above (omega arith) ∙ ap (λ t. t ++ text_of (slice_range body place (place + 1))) (text_of-gaps body from place (omega arith) first.before)

-- a part of a form is copied run by run
module _ (old now : Contents) (k from place start end to : ℕ) (le : from ≤ place) (within : to ≤ length (body_at old.forms k)) (is : now ≡ with_text old (text_of (slice_range (body_at old.forms k) from place))) (first_now : IsFirstOr (character_at (body_at now.forms k)) place to start) (last_now : IsFirstOr (gap_at (body_at now.forms k)) start to end) where
  first : IsFirstOr (character_at (body_at old.forms k)) place to start
  first = rw is at first_now

  last : IsFirstOr (gap_at (body_at old.forms k)) start to end
  last = rw is at last_now

  -- more of it was copied
  pub copied-more : (new : Contents) → new ≡ with_text now (text_of (slice_range (body_at now.forms k) start end)) → new ≡ with_text old (text_of (slice_range (body_at old.forms k) from end))
  copied-more new put =
      let body = body_at old.forms k in
      let a = first.above in
      let b = last.above in
      let below = first.below in
      let gaps : text_of (slice_range body place start) ≡ [] = text_of-gaps body place start (omega arith) first.before in
      let text : text_of (slice_range body from end) ≡ text_of (slice_range body from place) ++ text_of (slice_range body start end) =
      text_of-split body from place end le (omega arith) ∙ ap (λ t. text_of (slice_range body from place) ++ t) (text_of-split body place start end a b ∙ ap (λ t. t ++ text_of (slice_range body start end)) gaps) in
      put
      ∙ ap (λ (w : Contents). with_text w (text_of (slice_range (body_at w.forms k) start end))) is
      ∙ with-both old (text_of (slice_range body from place)) (text_of (slice_range body start end)) ∙ ap (with_text old) (sym text)

  -- what is copied so far, with the next run, is no more than all
  pub copied-fits : used now + (end - start) ≤ used old + length (text_of (slice_range (body_at old.forms k) from to))
  copied-fits =
      let body = body_at old.forms k in
      let a = first.above in
      let b = last.above in
      let below = last.below in
      let whole = ap length (text_of-split body from place to le (omega arith)) ∙ length-append (text_of (slice_range body from place)) (text_of (slice_range body place to)) in
      let rest = ap length (text_of-split body place start to a (omega arith)) ∙ length-append (text_of (slice_range body place start)) (text_of (slice_range body start to)) in
      let run = ap length (text_of-split body start end to b below) ∙ length-append (text_of (slice_range body start end)) (text_of (slice_range body end to)) in
      let here = length-characters body start end (omega arith) (characters-between body start end (omega arith) last.before) in
      let cells = ap used is ∙ used-with old (text_of (slice_range body from place)) in
      omega arith
