-- What is written to a buffer, piece by piece.
use Rattle.trac_image.proofs.Imports.{◌≡◌, ℕ, ◌+◌, ◌-◌, ◌*◌, ◌<◌, ◌≤◌, List, [], ◌∷◌, ◌++◌, length, take, drop, get_or, slice_get, slice_range, Option, Some, refl, sym, ap, ◌∙◌, ⊎_elim, arith, true, append-nil, append_assoc, length-append, take-append-drop, drop-drop, drop_all, drop_more, sum_by-cons, slice_get-get_or, slice_get_cases, flat_map, laid, laid_from, content, form_image, four_bytes, gap_bytes, image_of, no_sums, sum_bytes, summed, with_summand, Page, gap_text, wrote, Form, items_of, text_of, cells, form_cells, Text, Item, Byte, Gap}
use Rattle.trac_forms.specs.Search.{gap_at, is_gap}
use Rattle.trac_image.proofs.Buffers.{laid-next}
use Rattle.trac_image.specs.Pages.{with_byte}

-- one text is written behind another
pub wrote-append : (xs ys : Text) (p : Page) → wrote (xs ++ ys) p ≡ wrote ys (wrote xs p)
wrote-append [] ys p = refl
wrote-append (x ∷ xs) ys p = wrote-append xs ys (with_byte x p)

-- a text is written behind what is known
pub wrote-then : {p q r : Page} {xs ys : Text} → xs ≡ ys → r ≡ wrote xs q → q ≡ p → r ≡ wrote ys p
wrote-then is last before = last ∙ (λ i. wrote (is i) (before i))

-- the parts of the image of a form are written one after the other
pub form-wrote : (form : Form) (p : Page) → wrote (gap_bytes 0 form.body) (wrote (text_of form.body) (wrote form.name (wrote (four_bytes form.pointer) (wrote (four_bytes (length (text_of form.body))) (wrote (four_bytes (length form.body)) (wrote (four_bytes (length form.name)) p)))))) ≡ wrote (form_image form) p
form-wrote form p = simp wrote-append refl

-- the next form is written
pub forms-wrote : (all rest : List Form) (form : Form) (p q : Page) → all ≡ form ∷ rest → q ≡ wrote (form_image form) p → wrote (flat_map form_image rest) q ≡ wrote (flat_map form_image all) p
forms-wrote all rest form p q all_is next =
    ap (wrote (flat_map form_image rest)) next ∙ sym (wrote-append (form_image form) (flat_map form_image rest) p)
    ∙ ap (λ forms. wrote (flat_map form_image forms) p) (sym all_is)

-- the parts of what is summed are written one after the other
pub content-wrote : (forms : List Form) (meta : ℕ) (p : Page) → wrote (flat_map form_image forms) (wrote (four_bytes (length forms)) (with_byte meta (wrote (84 ∷ 82 ∷ 65 ∷ 67 ∷ 1 ∷ []) p))) ≡ wrote (content forms meta) p
content-wrote forms meta p = sym (wrote-append (four_bytes (length forms)) (flat_map form_image forms) (with_byte meta (wrote (84 ∷ 82 ∷ 65 ∷ 67 ∷ 1 ∷ []) p)))

text_of-items : (text : Text) (rest : List Item) → text_of (items_of text ++ rest) ≡ text ++ text_of rest
text_of-items [] rest = refl
text_of-items (c ∷ text) rest = ap (λ t. c ∷ t) (text_of-items text rest)

gap_bytes-items : (text : Text) (since : ℕ) (rest : List Item) → gap_bytes since (items_of text ++ rest) ≡ gap_bytes (since + length text) rest
gap_bytes-items [] since rest = ap (λ n. gap_bytes n rest) (let none : since ≡ since + 0 = omega arith in none)
gap_bytes-items (c ∷ text) since rest =
    gap_bytes-items text (since + 1) rest ∙ ap (λ n. gap_bytes n rest) (let one : since + 1 + length text ≡ since + length (c ∷ text) = omega arith in one)

a_gap : (item : Item) → is_gap item ≡ true → (k : ℕ) × (item ≡ Gap k)
a_gap (Byte c) gap = absurd cc
a_gap (Gap k) gap = (k, refl)

-- a place of a body at which a gap stands, or nothing
module _ (body : List Item) (place : ℕ) (stop : place < length body → gap_at body place ≡ true) where
  gap-here : place < length body → (k : ℕ) × ((slice_get body place ≡ Some (Gap k)) × (drop place body ≡ Gap k ∷ drop (place + 1) body))
  gap-here less =
      let gap = a_gap (get_or body place (Byte 0)) (stop less) in
      (gap.0, (slice_get-get_or body place (Byte 0) less ∙ ap Some gap.1, drop_more body place (Byte 0) less ∙ ap (λ item. item ∷ drop (place + 1) body) gap.1))

  none-here : length body ≤ place → (drop place body ≡ []) × (drop (place + 1) body ≡ [])
  none-here past = (drop_all place body past, drop_all (place + 1) body (omega (arith, past)))

  text-behind : text_of (drop place body) ≡ text_of (drop (place + 1) body)
  text-behind =
      ⊎_elim (λ some. ap text_of (gap-here some.1).1.1)
      (λ none. ap text_of ((none-here none.0).0 ∙ sym (none-here none.0).1)) (slice_get_cases body place).1

  -- the gap is written, if one stands there
  pub gap-wrote : (since : ℕ) (item : Option Item) (p q : Page) → item ≡ slice_get body place → q ≡ wrote (gap_text since item) p → wrote (gap_bytes 0 (drop (place + 1) body)) q ≡ wrote (gap_bytes since (drop place body)) p
  gap-wrote since item p q is next =
      ⊎_elim (λ some. rw (next, is, (gap-here some.1).1.0, (gap-here some.1).1.1) refl)
      (λ none. rw (next, is, none.1, (none-here none.0).0, (none-here none.0).1) refl) (slice_get_cases body place).1

-- characters in a row of a body, from a place on
module _ (body : List Item) (place count : ℕ) (text : Text) (are : slice_range body place (place + count) ≡ items_of text) (long : length text ≡ count) where
  in-front : drop place body ≡ items_of text ++ drop (place + count) body
  in-front =
      let size : count ≡ place + count - place = omega arith in
      sym (take-append-drop count (drop place body))
      ∙ ap (λ items. items ++ drop count (drop place body)) (ap (λ n. take n (drop place body)) size ∙ are)
      ∙ ap (λ rest. items_of text ++ rest) (drop-drop count place body)

  -- the gap behind them comes behind so many characters
  pub gaps-behind : gap_bytes 0 (drop place body) ≡ gap_bytes count (drop (place + count) body)
  gaps-behind =
      ap (gap_bytes 0) in-front ∙ gap_bytes-items text 0 (drop (place + count) body)
      ∙ ap (λ n. gap_bytes n (drop (place + count) body)) (let none : 0 + length text ≡ count = omega (arith, long) in none)

  -- what stands behind them, and behind the gap that ends them
  module _ (stop : place + count < length body → gap_at body (place + count) ≡ true) where
    abbrev rest : Text
    rest = text_of (drop (place + (count + 1)) body)

    characters-behind : text_of (drop place body) ≡ text ++ rest
    characters-behind =
        ap text_of in-front ∙ text_of-items text (drop (place + count) body)
        ∙ ap (λ t. text ++ t) (text-behind body (place + count) stop)
        ∙ ap (λ n. text ++ text_of (drop n body)) (let next : place + count + 1 ≡ place + (count + 1) = omega arith in next)

    -- how many they are
    pub characters-counted : length (text_of (drop place body)) ≡ count + length (text_of (drop (place + (count + 1)) body))
    characters-counted =
        ap length characters-behind ∙ length-append text rest ∙ ap (λ n. n + length rest) long

    -- they are written
    pub characters-wrote : (p q : Page) → q ≡ wrote text p → wrote (text_of (drop (place + (count + 1)) body)) q ≡ wrote (text_of (drop place body)) p
    characters-wrote p q next =
        ap (wrote rest) next ∙ sym (wrote-append text rest p) ∙ ap (λ t. wrote t p) (sym characters-behind)

pub length-text_of : (items : List Item) → length (text_of items) ≤ length items
length-text_of [] = omega arith
length-text_of (Byte c ∷ items) = omega (arith, length-text_of items)
length-text_of (Gap k ∷ items) = omega (arith, length-text_of items)

length-gap_bytes : (since : ℕ) (items : List Item) → length (gap_bytes since items) ≤ 8 * length items
length-gap_bytes since [] = omega arith
length-gap_bytes since (Byte c ∷ items) = omega (arith, length-gap_bytes (since + 1) items)
length-gap_bytes since (Gap k ∷ items) = omega (arith, length-gap_bytes 0 items)

length-form_image : (form : Form) → length (form_image form) ≤ 16 * form_cells form
length-form_image form =
    omega (arith, length-append form.name (text_of form.body ++ gap_bytes 0 form.body), length-append (text_of form.body) (gap_bytes 0 form.body), length-text_of form.body, length-gap_bytes 0 form.body)

length-forms : (forms : List Form) → length (flat_map form_image forms) ≤ 16 * cells forms
length-forms [] = omega arith
length-forms (form ∷ forms) =
    omega (arith, length-append (form_image form) (flat_map form_image forms), length-form_image form, length-forms forms, sum_by-cons form_cells form forms)

-- how long what is summed is at most
pub length-content : (forms : List Form) (meta : ℕ) → length (content forms meta) ≤ 10 + 16 * cells forms
length-content forms meta = omega (arith, length-forms forms)

with_byte-len : (byte : ℕ) (p : Page) → p.len < 18446744073709551615 → (with_byte byte p).len ≡ p.len + 1
unfolding with_byte
with_byte-len byte p less = omega arith

with_byte-room : (byte : ℕ) (p : Page) → (with_byte byte p).room ≡ laid_from p.len (byte ∷ []) p.room
unfolding with_byte
with_byte-room byte p = refl

with_byte-sums : (byte : ℕ) (p : Page) → (with_byte byte p).sums ≡ with_summand byte p.sums
unfolding with_byte
with_byte-sums byte p = refl

-- a text is summed as it is written
pub wrote-sums : (text : Text) (p : Page) → (wrote text p).sums ≡ summed text p.sums
wrote-sums [] p = refl
wrote-sums (byte ∷ text) p = wrote-sums text (with_byte byte p) ∙ ap (summed text) (with_byte-sums byte p)

-- and counted
pub wrote-len : (text : Text) (p : Page) → p.len + length text ≤ 18446744073709551615 → (wrote text p).len ≡ p.len + length text
wrote-len [] p few = omega arith
wrote-len (byte ∷ text) p few =
    let one = with_byte-len byte p (omega (arith, few)) in
    omega (arith, one, wrote-len text (with_byte byte p) (omega (arith, one, few)))

-- and stands in the buffer behind what was written before it
pub wrote-room : (text done : Text) (was : List ℕ) (p : Page) → p.len ≡ length done → p.room ≡ laid done was → length done + length text ≤ 18446744073709551615 → (wrote text p).room ≡ laid (done ++ text) was
wrote-room [] done was p at laid_so few = laid_so ∙ ap (λ t. laid t was) (simp append-nil)
wrote-room (byte ∷ text) done was p at laid_so few =
    let one = with_byte-len byte p (omega (arith, at, few)) in
    let more = length-append done (byte ∷ []) in
    let put = laid-next p.len done (byte ∷ []) was p.room (with_byte byte p).room at laid_so (with_byte-room byte p) in
    wrote-room text (done ++ byte ∷ []) was (with_byte byte p) (omega (arith, one, at, more)) put (omega (arith, few, more))
    ∙ ap (λ t. laid t was) (append_assoc done (byte ∷ []) text)

plus-none : (n : ℕ) → 0 + n ≡ n
plus-none n = omega arith

-- an image is written: what is summed, and the sums
module _ (forms : List Form) (meta : ℕ) (room : List ℕ) (whole last : Page) (few : cells forms < 4294967296) (written : whole ≡ wrote (content forms meta) (record { room = room; len = 0; sums = no_sums })) (ended : last ≡ wrote (sum_bytes whole.sums) whole) where
  abbrev empty : Page
  empty = record { room = room; len = 0; sums = no_sums }

  image-written : last ≡ wrote (image_of forms meta) empty
  image-written =
      let text = content forms meta in
      let sums : whole.sums ≡ summed text no_sums = ap (λ (p : Page). p.sums) written ∙ wrote-sums text empty in
      wrote-then (ap sum_bytes sums) ended written ∙ sym (wrote-append text (sum_bytes (summed text no_sums)) empty)

  short : 0 + length (image_of forms meta) ≤ 18446744073709551615
  short =
      let text = content forms meta in
      omega (arith, few, length-content forms meta, length-append text (sum_bytes (summed text no_sums)))

  pub image-len : last.len ≡ length (image_of forms meta)
  image-len = ap (λ (p : Page). p.len) image-written ∙ wrote-len (image_of forms meta) empty short ∙ plus-none (length (image_of forms meta))

  pub image-laid : last.room ≡ laid (image_of forms meta) room
  image-laid = ap (λ (p : Page). p.room) image-written ∙ wrote-room (image_of forms meta) [] room empty refl refl short
