-- Bytes that are written over cells by blocks of eight.
use Rattle.std.proofs.lemmas.List.{take-append-drop}
use Rattle.trac_space.proofs.Imports.{◌≡◌, ℕ, ◌+◌, ◌-◌, ◌≤◌, List, ◌++◌, length, take, drop, slice_range, sym, ap, ◌∙◌, arith, rules, take-add, places, same_lists, map-append, length-map, length-append, length-drop, length-take-le, length-between, put_mid, Cell, Byte, bytes, written_up_to}

-- cells in the middle of a list whose front is another
tag_of : (front was more : List Cell) (i : ℕ) → length front ≡ i → length more ≡ 8 → i + 8 ≤ length was → put_mid i (i + 8 - i) (front ++ drop i was) more ≡ front ++ more ++ drop (i + 8) was
tag_of front was more i size eight within =
    same_lists _ _ (search (rules, places)) (λ k d less. grind (arith, places))

module _ (text : List ℕ) (was now new : List Cell) (i : ℕ) (same : length was ≡ length text) where
  -- eight bytes more are written
  pub block-more : i + 8 ≤ length text → now ≡ written_up_to i text was → new ≡ bytes (slice_range text i (i + 8)) → put_mid i (i + 8 - i) now new ≡ written_up_to (i + 8) text was
  block-more within is made =
      let front = take i text in
      let more = slice_range text i (i + 8) in
      let eight : i + 8 - i ≡ 8 = omega arith in
      let front_len : length (bytes front) ≡ i = length-map front Byte ∙ length-take-le i text (omega arith) in
      let more_len : length (bytes more) ≡ 8 = length-map more Byte ∙ length-between text i (i + 8) within ∙ eight in
      let joined : front ++ more ≡ take (i + 8) text = sym (take-add i 8 text ∙ ap (λ n. front ++ take n (drop i text)) (sym eight)) in
      rw (is, made)
      (tag_of (bytes front) was (bytes more) i front_len more_len (omega arith)
      ∙ ap (λ cells. cells ++ drop (i + 8) was) (sym (map-append Byte front more) ∙ ap bytes joined))

  -- eight bytes more are written, up to the place `end`
  pub block-up_to : (end : ℕ) → end ≡ i + 8 → end ≤ length text → now ≡ written_up_to i text was → new ≡ bytes (slice_range text i end) → put_mid i (end - i) now new ≡ written_up_to end text was
  block-up_to end e within is made = rw e (block-more (rw e at within) is (rw e at made))

pub still-long : (now new : List Cell) (i n : ℕ) → length now ≡ n → i + 8 ≤ n → length new ≡ 8 → length (put_mid i (i + 8 - i) now new) ≡ n
still-long now new i n long within eight = search (rules, places)

pub long-up_to : (now new : List Cell) (i end n : ℕ) → end ≡ i + 8 → length now ≡ n → end ≤ n → length new ≡ 8 → length (put_mid i (end - i) now new) ≡ n
long-up_to now new i end n e long within eight = rw e (still-long now new i n long (rw e at within) eight)

-- a block of eight bytes makes eight cells
pub block-long : (text : List ℕ) (new : List Cell) (i end : ℕ) → end ≡ i + 8 → end ≤ length text → new ≡ bytes (slice_range text i end) → length new ≡ 8
block-long text new i end e within made =
    ap length made ∙ length-map (slice_range text i end) Byte ∙ length-between text i end within ∙ omega (arith, e)

-- the last cells of a list whose front is another
tag_of-last : (front was more : List Cell) (i : ℕ) → length front ≡ i → length more ≡ length was - i → i ≤ length was → put_mid i (length was - i) (front ++ drop i was) more ≡ front ++ more
tag_of-last front was more i size rest within =
    same_lists _ _ (search (rules, places)) (λ k d less. grind (arith, places))

-- the bytes that are left are written
pub last-written : (text : List ℕ) (was now new : List Cell) (i : ℕ) → length was ≡ length text → i ≤ length text → now ≡ written_up_to i text was → new ≡ bytes (drop i text) → put_mid i (length now - i) now new ≡ bytes text
last-written text was now new i same within is made =
    let front = bytes (take i text) in
    let size : length front ≡ i = length-map (take i text) Byte ∙ length-take-le i text within in
    let rest : length (bytes (drop i text)) ≡ length was - i = length-map (drop i text) Byte ∙ length-drop i text ∙ ap (λ n. n - i) (sym same) in
    let long : length (front ++ drop i was) ≡ length was = omega (arith, length-append front (drop i was), size, length-drop i was, same, within) in
    rw (is, made)
    (ap (λ n. put_mid i (n - i) (front ++ drop i was) (bytes (drop i text))) long
    ∙ tag_of-last front was (bytes (drop i text)) i size rest (omega (arith, same, within))
    ∙ sym (map-append Byte (take i text) (drop i text))
    ∙ ap bytes (take-append-drop i text))
