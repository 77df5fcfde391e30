-- Characters that are put once more at a place behind, one after the other.
use Rattle.trac_space.proofs.Imports.{◌≡◌, ◌↔◌, ℕ, ◌+◌, ◌<◌, ◌≤◌, true, false, IsTrue, nat_eq, All, List, [], ◌∷◌, ◌++◌, length, take, drop, map, get_or, slice_range, sum_by, refl, sym, ◌-◌, ap, ◌∙◌, subst, ⊎_elim, arith, rules, places, same_lists, length-drop, length-take-le, get_or-take}
use Rattle.trac_space.proofs.Imports.{get_or-map, get_or-drop, take_more, drop_more, suc, take-map, drop-map, drop-drop, take-add, cases_lt, All-append, All-push, All-map, All-cons, All-head, All-tail, sum_by-cons, Cell, Byte, Call, Comma, seen, IsNoCall, NoCall, IsByte, is_byte_cell, byte_cell_at}
use Rattle.trac_space.proofs.Imports.{kind_number}
use Rattle.trac_space.proofs.Blocks.{AreAll}

-- a cell that is tested is a character
pub tested-byte : (cell : Cell) → is_byte_cell cell ≡ true → IsByte cell
tested-byte cell is = rw is tt

-- one character more
pub bytes-more : (was : List Cell) (start k : ℕ) (d : Cell) → start + k < length was → All IsByte (take k (drop start was)) → IsByte (get_or was (start + k) d) → All IsByte (take (k + 1) (drop start was))
bytes-more was start k d within bytes next =
    rw (take_more (drop start was) k d (omega (arith, length-drop start was))) (All-push IsByte _ _ bytes (rw get_or-drop next))

-- `count` characters stand from `start` on, and `count` is at most `most`
pub record AreUpTo (cells : List Cell) (start most count : ℕ) : Type 0 where
  pub within : count ≤ most
  pub bytes : All IsByte (take count (drop start cells))

-- one more character stands there, if the next cell is one
pub up-to-next : (cells : List Cell) (start most count : ℕ) → start + most ≤ length cells → count < most → AreUpTo cells start most count → is_byte_cell (get_or cells (start + count) (Byte 0)) ≡ true → AreUpTo cells start most (count + 1)
up-to-next cells start most count room less done is = record {
  within = omega (arith, less);
  bytes = bytes-more cells start count (Byte 0) (omega (arith, room, less)) done.bytes (tested-byte (get_or cells (start + count) (Byte 0)) is);
}

-- the `count` cells right before a place are characters, at most eight
pub record AreBefore (cells : List Cell) (at count : ℕ) : Type 0 where
  pub within : count ≤ 8
  pub bytes : All IsByte (take count (drop (at - count) cells))

-- the cell before them is one too
pub before-next : (cells : List Cell) (at count : ℕ) → at ≤ length cells → 8 ≤ at → count < 8 → AreBefore cells at count → is_byte_cell (get_or cells (at - count - 1) (Byte 0)) ≡ true → AreBefore cells at (count + 1)
before-next cells at count inside behind less done is =
    let here : at - (count + 1) ≡ at - count - 1 = omega arith in
    let next : at - count - 1 + 1 ≡ at - count = omega (arith, behind, less) in
    let whole : drop (at - (count + 1)) cells ≡ get_or cells (at - count - 1) (Byte 0) ∷ drop (at - count) cells =
    ap (λ i. drop i cells) here ∙ drop_more cells (at - count - 1) (Byte 0) (omega (arith, behind, less, inside)) ∙ ap (λ i. get_or cells (at - count - 1) (Byte 0) ∷ drop i cells) next in
    let one : count + 1 ≡ suc count = omega arith in
    record {
      within = omega (arith, less);
      bytes = rw (whole, one) (All-cons IsByte (get_or cells (at - count - 1) (Byte 0)) (take count (drop (at - count) cells)) (tested-byte (get_or cells (at - count - 1) (Byte 0)) is) done.bytes);
    }

-- k characters stand from `start` on, and j more behind them
pub bytes-join : (cells : List Cell) (start k j : ℕ) → All IsByte (take k (drop start cells)) → All IsByte (take j (drop (start + k) cells)) → All IsByte (take (k + j) (drop start cells))
bytes-join cells start k j bytes more =
    rw take-add (All-append IsByte _ _ bytes (rw drop-drop more))

-- links don't count
pub tested-seen : (cell : Cell) → is_byte_cell (seen cell) ≡ is_byte_cell cell
tested-seen (Byte b) = refl
tested-seen cell = refl

-- no character is a call mark
byte-no_call : (cell : Cell) → IsByte cell → IsNoCall cell
byte-no_call (Call mode distance) h = absurd h
byte-no_call cell h = refl

pub no_call-characters : (cells : List Cell) → All IsByte cells → NoCall cells
no_call-characters cells bytes = λ k d less. byte-no_call (get_or cells k d) (bytes k d less)

-- n characters of the block from a on are a part of the store
module _ (cells : List Cell) (store a n : ℕ) (within : a + n ≤ store) where
  pub part-seen : slice_range (map seen (take store cells)) a (a + n) ≡ map seen (slice_range cells a (a + n))
  part-seen =
      let part : slice_range (take store cells) a (a + n) ≡ slice_range cells a (a + n) = same_lists _ _ (search (rules, places)) (λ i d less. grind (arith, places)) in
      simp (take-map, drop-map, part)

  pub part-bytes : All IsByte (take n (drop a cells)) → All IsByte (slice_range (map seen (take store cells)) a (a + n))
  part-bytes bytes =
      let size : a + n - a ≡ n = omega arith in
      rw (part-seen, size) (All-map IsByte seen (take n (drop a cells)) (λ k d less. rw tested-seen (bytes k d less)))

  pub part-stop : a + n < store → store ≤ length cells → byte_cell_at cells (a + n) ≡ false → byte_cell_at (map seen (take store cells)) (a + n) ≡ false
  part-stop inside fits stop =
      let i = a + n in
      let at = get_or-map seen (take store cells) i Comma Comma (omega (arith, inside, length-take-le store cells fits)) ∙ ap seen (get_or-take store cells i Comma inside) in
      ap is_byte_cell at ∙ tested-seen (get_or cells i Comma) ∙ stop

-- a part of a list goes on
pub part-on : {X : Type 0} (xs : List X) (a n m : ℕ) → slice_range xs a (a + (n + m)) ≡ slice_range xs a (a + n) ++ slice_range xs (a + n) (a + n + m)
part-on xs a n m = same_lists _ _ (search (rules, places)) (λ i d less. grind (arith, places))

-- whether a cell is a character, by the number of its kind
byte-kind : (cell : Cell) → kind_number cell ≡ 0 → IsByte cell
byte-kind (Byte b) none = search rules
byte-kind cell none = absurd (omega (arith, none))

kind-byte : (cell : Cell) → IsByte cell → kind_number cell ≡ 0
kind-byte (Byte b) byte = refl
kind-byte cell byte = absurd byte

-- cells whose kinds come to nothing are characters
pub bytes-kinds : (cells : List Cell) → sum_by kind_number cells ≡ 0 → All IsByte cells
bytes-kinds [] none = λ k d within. absurd (omega arith)
bytes-kinds (cell ∷ cells) none =
    let parts = sum_by-cons kind_number cell cells in
    All-cons IsByte cell cells (byte-kind cell (omega (arith, none, parts))) (bytes-kinds cells (omega (arith, none, parts)))

pub kinds-bytes : (cells : List Cell) → All IsByte cells → sum_by kind_number cells ≡ 0
kinds-bytes [] all = refl
kinds-bytes (cell ∷ cells) all =
    omega (arith, sum_by-cons kind_number cell cells, kind-byte cell (All-head IsByte cell cells all), kinds-bytes cells (All-tail IsByte cell cells all))

pub none-is : (n : ℕ) → IsTrue (nat_eq n 0) ↔ n ≡ 0
none-is n = grind arith

module _ (P : Cell → Type 0) (cells : List Cell) (at : ℕ) where
  -- what holds of the first k cells and of the last m holds of all, if these are all
  pub both-ends : (k m n : ℕ) → AreAll k m n → at + n ≤ length cells → All P (take k (drop at cells)) → All P (take m (drop (at + (n - m)) cells)) → All P (take n (drop at cells))
  both-ends k m n are within first last = λ i d less.
      let front = are.first in
      let back = are.last in
      let twice = are.all in
      let size = length-take-le n (drop at cells) (omega (arith, length-drop at cells)) in
      let here = get_or-take n (drop at cells) i d (omega arith) in
      ⊎_elim
      (λ below.
      let there = get_or-take k (drop at cells) i d below in
      let long = length-take-le k (drop at cells) (omega (arith, length-drop at cells)) in
      subst P (there ∙ sym here) (first i d (omega arith)))
      (λ past.
      let j = i - (n - m) in
      let rest = drop (at + (n - m)) cells in
      let place : at + (n - m) + j ≡ at + i = omega arith in
      let there = get_or-take m rest j d (omega arith) ∙ get_or-drop (at + (n - m)) cells j d ∙ ap (λ l. get_or cells l d) place ∙ sym (get_or-drop at cells i d) in
      let long = length-take-le m rest (omega (arith, length-drop (at + (n - m)) cells)) in
      subst P (there ∙ sym here) (last j d (omega arith)))
      (cases_lt i k)
