-- What stands between comma marks, part by part, and a list of where the parts begin.
use Rattle.trac_store.proofs.Imports.{◌≡◌, ℕ, suc, ◌+◌, ◌<◌, ◌≤◌, Bool, true, false, List, [], ◌∷◌, ◌++◌, All, length, take, drop, map, slice_range, get_or, refl, sym, ap, ◌∙◌, arith, cond, nat_le, ⊎_elim, cases_lt, drop_more, length-drop, length-take-le}
use Rattle.trac_store.proofs.Imports.{drop-drop, take-append-drop, All-head, All-tail, length-between, Cell, Byte, Comma, seen, is_comma, IsByte, before_comma, parts_at, parts_between}
use Rattle.trac_store.proofs.FlatLemmas.{drop-part}

pub before_comma-within : (cells : List Cell) → before_comma cells ≤ length cells
before_comma-within [] = omega arith
before_comma-within (cell ∷ cells) = go (is_comma cell) (before_comma-within cells)
  where
    go : (b : Bool) → before_comma cells ≤ length cells → cond b 0 (suc (before_comma cells)) ≤ suc (length cells)
    go true h = omega arith
    go false h = omega arith

no-comma : (cell : Cell) → (cell ≡ Comma → ⊥) → is_comma cell ≡ false
no-comma Comma h = absurd (h refl)
no-comma cell h = refl

-- a cell that is no comma mark is passed
module _ (cells : List Cell) where
  before-one : (i : ℕ) (d : Cell) → i < length cells → (get_or cells i d ≡ Comma → ⊥) → before_comma cells ≡ i + before_comma (drop i cells) → before_comma cells ≡ i + 1 + before_comma (drop (i + 1) cells)
  before-one i d less other is =
      let here = ap before_comma (drop_more cells i d less) ∙ ap (λ b. cond b 0 (suc (before_comma (drop (i + 1) cells)))) (no-comma (get_or cells i d) other) in
      omega (arith, is, here)

  -- the first four are
  pub first-four : (d : Cell) → 4 ≤ length cells → (get_or cells 0 d ≡ Comma → ⊥) → (get_or cells 1 d ≡ Comma → ⊥) → (get_or cells 2 d ≡ Comma → ⊥) → (get_or cells 3 d ≡ Comma → ⊥) → before_comma cells ≡ 4 + before_comma (drop 4 cells)
  first-four d within first second third fourth =
      let a = before-one 0 d (omega (arith, within)) first (omega arith) in
      let b = before-one 1 d (omega (arith, within)) second a in
      let c = before-one 2 d (omega (arith, within)) third b in
      before-one 3 d (omega (arith, within)) fourth c

byte-no-comma : (cell : Cell) → IsByte cell → is_comma cell ≡ false
byte-no-comma Comma byte = absurd byte
byte-no-comma cell byte = refl

-- characters are passed
before-bytes : (cells rest : List Cell) → All IsByte cells → before_comma (cells ++ rest) ≡ length cells + before_comma rest
before-bytes [] rest bytes = omega arith
before-bytes (cell ∷ cells) rest bytes =
    let here = ap (λ b. cond b 0 (suc (before_comma (cells ++ rest)))) (byte-no-comma cell (All-head IsByte cell cells bytes)) in
    omega (arith, here, before-bytes cells rest (All-tail IsByte cell cells bytes))

-- eight characters are
pub before-eight : (cells : List Cell) (i : ℕ) → i + 8 ≤ length cells → All IsByte (take 8 (drop i cells)) → before_comma cells ≡ i + before_comma (drop i cells) → before_comma cells ≡ i + 8 + before_comma (drop (i + 8) cells)
before-eight cells i within bytes is =
    let rest = drop i cells in
    let split = ap before_comma (sym (take-append-drop 8 rest)) ∙ before-bytes (take 8 rest) (drop 8 rest) bytes in
    let long = length-take-le 8 rest (omega (arith, length-drop i cells)) in
    let behind = ap before_comma (drop-drop 8 i cells) in
    omega (arith, is, split, long, behind)

is_comma-seen : (cell : Cell) → is_comma (seen cell) ≡ is_comma cell
is_comma-seen (Byte b) = refl
is_comma-seen cell = refl

before_comma-seen : (cells : List Cell) → before_comma (map seen cells) ≡ before_comma cells
before_comma-seen [] = refl
before_comma-seen (cell ∷ cells) = rw (is_comma-seen cell, before_comma-seen cells) refl

-- `n` cells stand before the first comma mark, also as contracts see the cells
pub found-comma : (cells part : List Cell) (n : ℕ) → map seen cells ≡ part → n ≡ before_comma cells → n ≡ before_comma part
found-comma cells part n e found = found ∙ sym (before_comma-seen cells) ∙ ap before_comma e

-- the first part ends at the first comma mark, and the others come behind it
parts_at-some : (from at : ℕ) (cells : List Cell) → before_comma cells < length cells → parts_at from at cells ≡ (from, at + before_comma cells) ∷ parts_at (at + before_comma cells + 1) (at + before_comma cells + 1) (drop (suc (before_comma cells)) cells)
parts_at-some from at [] some = absurd (omega arith)
parts_at-some from at (cell ∷ cells) some = go (is_comma cell) (parts_at-some from (at + 1) cells) some
  where
    go : (b : Bool) → (before_comma cells < length cells → parts_at from (at + 1) cells ≡ (from, at + 1 + before_comma cells) ∷ parts_at (at + 1 + before_comma cells + 1) (at + 1 + before_comma cells + 1) (drop (suc (before_comma cells)) cells)) → cond b 0 (suc (before_comma cells)) < suc (length cells) → cond b ((from, at) ∷ parts_at (at + 1) (at + 1) cells) (parts_at from (at + 1) cells) ≡ (from, at + cond b 0 (suc (before_comma cells))) ∷ parts_at (at + cond b 0 (suc (before_comma cells)) + 1) (at + cond b 0 (suc (before_comma cells)) + 1) (drop (cond b 0 (suc (before_comma cells))) cells)
    go true rest h =
        let e : at ≡ at + 0 = omega arith in
        ap (λ k. (from, k) ∷ parts_at (k + 1) (k + 1) cells) e
    go false rest h =
        let e : at + 1 + before_comma cells ≡ at + suc (before_comma cells) = omega arith in
        rest (omega arith) ∙ ap (λ k. (from, k) ∷ parts_at (k + 1) (k + 1) (drop (suc (before_comma cells)) cells)) e

parts_at-last : (from at : ℕ) (cells : List Cell) → length cells ≤ before_comma cells → parts_at from at cells ≡ (from, at + before_comma cells) ∷ []
parts_at-last from at [] last = let e : at ≡ at + 0 = omega arith in ap (λ k. (from, k) ∷ []) e
parts_at-last from at (cell ∷ cells) last = go (is_comma cell) (parts_at-last from (at + 1) cells) last
  where
    go : (b : Bool) → (length cells ≤ before_comma cells → parts_at from (at + 1) cells ≡ (from, at + 1 + before_comma cells) ∷ []) → suc (length cells) ≤ cond b 0 (suc (before_comma cells)) → cond b ((from, at) ∷ parts_at (at + 1) (at + 1) cells) (parts_at from (at + 1) cells) ≡ (from, at + cond b 0 (suc (before_comma cells))) ∷ []
    go true rest h = absurd (omega arith)
    go false rest h =
        let e : at + 1 + before_comma cells ≡ at + suc (before_comma cells) = omega arith in
        rest (omega arith) ∙ ap (λ k. (from, k) ∷ []) e

parts-some : (neutral : List Cell) (from end : ℕ) → from ≤ end → parts_between neutral from end ≡ parts_at from from (slice_range neutral from end)
parts-some neutral from end le = let yes : nat_le from end ≡ true = grind arith in rw yes refl

pub parts-none : (neutral : List Cell) (from end : ℕ) → end < from → parts_between neutral from end ≡ []
parts-none neutral from end lt = let no : nat_le from end ≡ false = grind arith in rw no refl

-- the parts from a place on: the first has `n` cells, and the others stand behind it
module _ (neutral : List Cell) (from end n : ℕ) (le : from ≤ end) (within : end ≤ length neutral) (is : n ≡ before_comma (slice_range neutral from end)) where
  pub part-fits : from + n ≤ end
  part-fits = omega (arith, is, before_comma-within (slice_range neutral from end), length-between neutral from end within)

  behind : parts_at from from (slice_range neutral from end) ≡ (from, from + before_comma (slice_range neutral from end)) ∷ parts_between neutral (from + before_comma (slice_range neutral from end) + 1) end
  behind =
      let here = slice_range neutral from end in
      let k = before_comma here in
      let long = length-between neutral from end within in
      let f = part-fits in
      ⊎_elim
      (λ more.
      let e : from + suc k ≡ from + k + 1 = omega arith in
      parts_at-some from from here more
      ∙ ap (λ cells. (from, from + k) ∷ parts_at (from + k + 1) (from + k + 1) cells) (drop-part neutral from (suc k) end (omega (arith, more, long)) ∙ ap (λ i. slice_range neutral i end) e)
      ∙ ap (λ parts. (from, from + k) ∷ parts) (sym (parts-some neutral (from + k + 1) end (omega (arith, more, long)))))
      (λ last. parts_at-last from from here last ∙ ap (λ parts. (from, from + k) ∷ parts) (sym (parts-none neutral (from + k + 1) end (omega (arith, last, long)))))
      (cases_lt k (length here))

  pub parts-first : parts_between neutral from end ≡ (from, from + n) ∷ parts_between neutral (from + n + 1) end
  parts-first = parts-some neutral from end le ∙ behind ∙ ap (λ k. (from, from + k) ∷ parts_between neutral (from + k + 1) end) (sym is)

-- the first part ends where the slice of neutral shows that it does
pub shown-fits : (neutral cells : List Cell) (from end n : ℕ) → from ≤ end → end ≤ length neutral → map seen cells ≡ slice_range neutral from end → n ≡ before_comma cells → from + n ≤ end
shown-fits neutral cells from end n le within shown found = part-fits neutral from end n le within (found-comma cells (slice_range neutral from end) n shown found)
