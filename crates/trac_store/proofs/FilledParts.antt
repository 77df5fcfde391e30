-- What fills the gaps of a body: the texts between the comma marks of neutral.
use Rattle.trac_store.proofs.Imports.{Bool, ◌≡◌, ℕ, zero, suc, ◌+◌, ◌-◌, ◌<◌, ◌≤◌, true, false, cond, All, List, [], ◌∷◌, ◌++◌, length, take, drop, map, get_or, nat_le, refl, sym, ap, ◌∙◌, arith, rules, subst, slice_range, ⊎_elim, cases_lt, length-map, map-append, get_or_past, get_or-map, length-between, drop_more, All-tail, All-cons, All-nil, All-get_or, places, same_lists, Cell, Byte}
use Rattle.trac_store.proofs.Imports.{Comma, Gap, Call, IsByte, is_comma, filled, numbered_part, part_between, parts_at, flat_text, HaveTags, untagged, AreTextParts, IsTextPart, part_text, part_texts, parts_between, append_assoc, length-append, length-take-le, split_between}
use Rattle.trac_store.proofs.Imports.{take-append-drop}
use Rattle.trac_space.proofs.Filled.{parts-within}
use Rattle.trac_space.proofs.TaggedCommas.{Takes}
use Rattle.trac_store.proofs.Filling.{filled as filled_text, part-there, part-text}
use Rattle.trac_store.proofs.FlatLemmas.{Byte-character_of}

-- parts are counted from another place
abbrev moved : ℕ → ℕ × ℕ → ℕ × ℕ
moved d p = (p.0 + d, p.1 + d)

parts-moved : (d from at : ℕ) (cells : List Cell) → parts_at (from + d) (at + d) cells ≡ map (moved d) (parts_at from at cells)
parts-moved d from at [] = refl
parts-moved d from at (cell ∷ cells) = go (is_comma cell) (parts-moved d (at + 1) (at + 1) cells) (parts-moved d from (at + 1) cells)
  where
    next : at + 1 + d ≡ at + d + 1
    next = omega arith

    go : (b : Bool) → parts_at (at + 1 + d) (at + 1 + d) cells ≡ map (moved d) (parts_at (at + 1) (at + 1) cells) → parts_at (from + d) (at + 1 + d) cells ≡ map (moved d) (parts_at from (at + 1) cells) → cond b ((from + d, at + d) ∷ parts_at (at + d + 1) (at + d + 1) cells) (parts_at (from + d) (at + d + 1) cells) ≡ map (moved d) (cond b ((from, at) ∷ parts_at (at + 1) (at + 1) cells) (parts_at from (at + 1) cells))
    go true other one = ap (λ k. (from + d, at + d) ∷ parts_at k k cells) (sym next) ∙ ap (λ l. (from + d, at + d) ∷ l) other
    go false other one = ap (λ k. parts_at (from + d) k cells) (sym next) ∙ one

slice-nil : {X : Type 0} (a b : ℕ) → slice_range {X = X} [] a b ≡ []
slice-nil a b = same_lists _ _ (search (rules, places)) (λ k d less. grind (arith, places))

-- the first part ends at the first of the cells or behind it
first-end : (from at : ℕ) (cells : List Cell) → at ≤ (get_or (parts_at from at cells) 0 (0, 0)).1
first-end from at [] = omega arith
first-end from at (cell ∷ cells) = go (is_comma cell) (first-end from (at + 1) cells)
  where
    go : (b : Bool) → at + 1 ≤ (get_or (parts_at from (at + 1) cells) 0 (0, 0)).1 → at ≤ (get_or (cond b ((from, at) ∷ parts_at (at + 1) (at + 1) cells) (parts_at from (at + 1) cells)) 0 (0, 0)).1
    go true h = omega arith
    go false h = omega (arith, h)

first-begin : (from at : ℕ) (cells : List Cell) → (get_or (parts_at from at cells) 0 (0, 0)).0 ≡ from
first-begin from at [] = refl
first-begin from at (cell ∷ cells) = go (is_comma cell) (first-begin from (at + 1) cells)
  where
    go : (b : Bool) → (get_or (parts_at from (at + 1) cells) 0 (0, 0)).0 ≡ from → (get_or (cond b ((from, at) ∷ parts_at (at + 1) (at + 1) cells) (parts_at from (at + 1) cells)) 0 (0, 0)).0 ≡ from
    go true h = refl
    go false h = h

some-parts : (from at : ℕ) (cells : List Cell) → 0 < length (parts_at from at cells)
some-parts from at [] = omega arith
some-parts from at (cell ∷ cells) = go (is_comma cell) (some-parts from (at + 1) cells)
  where
    go : (b : Bool) → 0 < length (parts_at from (at + 1) cells) → 0 < length (cond b ((from, at) ∷ parts_at (at + 1) (at + 1) cells) (parts_at from (at + 1) cells))
    go true h = omega arith
    go false h = h

comma-takes : (cell : Cell) → is_comma cell ≡ true → Takes cell
comma-takes Comma is = refl
comma-takes (Byte b) is = refl
comma-takes (Call mode k) is = cc
comma-takes (Gap k) is = cc
comma-takes cell is = cc

byte-takes : (cell : Cell) → IsByte cell → Takes cell
byte-takes (Byte b) is = refl
byte-takes cell is = absurd is

module _ (neutral : List Cell) (end : ℕ) (within : end ≤ length neutral) where
  -- cells that comma marks part into texts can take numbers
  parted-take : (cells : List Cell) (from at : ℕ) → from ≤ at → at ≤ end → cells ≡ slice_range neutral at end → AreTextParts neutral (parts_at from at cells) → All Takes cells
  parted-take [] from at order up is are = All-nil Takes
  parted-take (cell ∷ cells) from at order up is are =
      ⊎_elim
      (λ less.
      let split : end - at ≡ suc (end - (at + 1)) = omega (arith, less) in
      let whole : cell ∷ cells ≡ get_or neutral at Comma ∷ slice_range neutral (at + 1) end = is ∙ ap (λ n. take n (drop at neutral)) split ∙ ap (take (suc (end - (at + 1)))) (drop_more neutral at Comma (omega (arith, less, within))) in
      let here : cell ≡ get_or neutral at Comma = ap (λ l. get_or l 0 Comma) whole in
      let rest : cells ≡ slice_range neutral (at + 1) end = ap (drop 1) whole in
      go (is_comma cell) (parted-take cells (at + 1) (at + 1)) (parted-take cells from (at + 1)) refl here rest less are)
      (λ past.
      let none : end - at ≡ 0 = omega (arith, past) in
      let long : length (cell ∷ cells) ≡ 0 = ap length is ∙ ap (λ n. length (take n (drop at neutral))) none in
      absurd (omega (arith, long)))
      (cases_lt at end)
    where
      go : (b : Bool) → (at + 1 ≤ at + 1 → at + 1 ≤ end → cells ≡ slice_range neutral (at + 1) end → AreTextParts neutral (parts_at (at + 1) (at + 1) cells) → All Takes cells) → (from ≤ at + 1 → at + 1 ≤ end → cells ≡ slice_range neutral (at + 1) end → AreTextParts neutral (parts_at from (at + 1) cells) → All Takes cells) → is_comma cell ≡ b → cell ≡ get_or neutral at Comma → cells ≡ slice_range neutral (at + 1) end → at < end → AreTextParts neutral (cond b ((from, at) ∷ parts_at (at + 1) (at + 1) cells) (parts_at from (at + 1) cells)) → All Takes (cell ∷ cells)
      go true other one comma here rest less are =
          All-cons Takes cell cells (comma-takes cell comma) (other (omega arith) (omega (arith, less)) rest (All-tail (λ (p : ℕ × ℕ). IsTextPart neutral p.0 p.1) (from, at) (parts_at (at + 1) (at + 1) cells) are))
      go false other one is_other here rest less are =
          let parts = parts_at from (at + 1) cells in
          let first : IsTextPart neutral (get_or parts 0 (0, 0)).0 (get_or parts 0 (0, 0)).1 = All-get_or (λ (p : ℕ × ℕ). IsTextPart neutral p.0 p.1) parts 0 (0, 0) (some-parts from (at + 1) cells) are in
          let begin : (get_or parts 0 (0, 0)).0 ≡ from = first-begin from (at + 1) cells in
          let stop = first-end from (at + 1) cells in
          let last = (get_or parts 0 (0, 0)).1 in
          let part : IsTextPart neutral from last = subst (λ a. IsTextPart neutral a last) begin first in
          let ordered = part.order in
          let inside = part.within in
          let text = slice_range neutral from last in
          let place : at - from < length text = omega (arith, stop, order, length-between neutral from last inside) in
          let byte : IsByte (get_or text (at - from) Comma) = All-get_or IsByte text (at - from) Comma place part.bytes in
          let read : get_or text (at - from) Comma ≡ get_or neutral at Comma = grind (arith, places) in
          All-cons Takes cell cells (byte-takes cell (subst IsByte (read ∙ sym here) byte)) (one (omega (arith, order)) (omega (arith, less)) rest are)

-- where the first of them begins: at the end where there is none
pub record IsBegin (first end from : ℕ) : Type 0 where
  pub some : first ≤ end → from ≡ first
  pub none : end < first → from ≡ end

module _ (neutral : List Cell) (first end from : ℕ) (begin : IsBegin first end from) (within : end ≤ length neutral) (are : AreTextParts neutral (parts_between neutral first end)) where
  -- the cells between which the comma marks stand
  abbrev given : List Cell
  given = slice_range neutral from end

  some-between : first ≤ end → parts_between neutral first end ≡ map (moved first) (parts_at 0 0 (slice_range neutral first end))
  some-between le =
      let yes : nat_le first end ≡ true = grind (arith, le) in
      let e : 0 + first ≡ first = omega arith in
      rw yes (ap (λ n. parts_at n n (slice_range neutral first end)) (sym e) ∙ parts-moved first 0 0 (slice_range neutral first end))

  none-between : end < first → parts_between neutral first end ≡ []
  none-between lt = let no : nat_le first end ≡ false = grind (arith, lt) in rw no refl

  none-given : end < first → given ≡ []
  none-given lt =
      let e : end - from ≡ 0 = omega (arith, begin.none lt) in
      ap (λ n. take n (drop from neutral)) e

  pub given-takes : All Takes given
  given-takes =
      ⊎_elim
      (λ lt. subst (All Takes) (sym (none-given lt)) (All-nil Takes))
      (λ le.
      let yes : nat_le first end ≡ true = grind (arith, le) in
      let parts : AreTextParts neutral (parts_at first first (slice_range neutral first end)) = rw yes at are in
      subst (λ n. All Takes (slice_range neutral n end)) (sym (begin.some le)) (parted-take neutral end within (slice_range neutral first end) first first (omega arith) le refl parts))
      (cases_lt end first)

  -- the part of a number is its text
  part-flat : (number : ℕ) → part_between given number ≡ flat_text (get_or ([] ∷ part_texts neutral (parts_between neutral first end)) number [])
  part-flat number = ⊎_elim (λ lt. without lt number) (λ le. with le number) (cases_lt end first)
    where
      without : end < first → (number : ℕ) → part_between given number ≡ flat_text (get_or ([] ∷ part_texts neutral (parts_between neutral first end)) number [])
      without lt zero = refl
      without lt (suc k) =
          let p = numbered_part (parts_at 0 0 given) (suc k) in
          ap (λ l. slice_range l p.0 p.1) (none-given lt) ∙ slice-nil p.0 p.1 ∙ ap (λ parts. flat_text (get_or ([] ∷ part_texts neutral parts) (suc k) [])) (sym (none-between lt))

      with : first ≤ end → (number : ℕ) → part_between given number ≡ flat_text (get_or ([] ∷ part_texts neutral (parts_between neutral first end)) number [])
      with le zero = refl
      with le (suc k) =
          let cells = slice_range neutral first end in
          let parts = parts_at 0 0 cells in
          let all = parts_between neutral first end in
          let same : given ≡ cells = ap (λ n. slice_range neutral n end) (begin.some le) in
          ap (λ l. part_between l (suc k)) same
          ∙ ⊎_elim
          (λ less.
          let p = get_or parts k (0, 0) in
          let q = numbered_part all (suc k) in
          let q_is : q ≡ (p.0 + first, p.1 + first) = ap (λ l. get_or l k (0, 0)) (some-between le) ∙ get_or-map (moved first) parts k (0, 0) (0, 0) less in
          let text = part-there neutral all are (suc k) in
          let h = parts-within 0 0 cells (omega arith) k less in
          let order : p.0 ≤ p.1 = h.0 in
          let few : p.1 ≤ end - first = omega (arith, h.1, length-between neutral first end within) in
          let here : slice_range cells p.0 p.1 ≡ slice_range neutral (p.0 + first) (p.1 + first) = same_lists _ _ (search (rules, places)) (λ i d below. grind (arith, places)) in
          here
          ∙ ap (λ (r : ℕ × ℕ). slice_range neutral r.0 r.1) (sym q_is)
          ∙ sym (Byte-character_of (slice_range neutral q.0 q.1) text.bytes)
          ∙ ap flat_text (part-text neutral all are (suc k)))
          (λ past.
          let long : length (part_texts neutral all) ≤ k = omega (arith, past, length-map all (λ (part : ℕ × ℕ). part_text neutral part.0 part.1), ap length (some-between le), length-map parts (moved first)) in
          ap (λ (r : ℕ × ℕ). slice_range cells r.0 r.1) (get_or_past parts k (0, 0) past) ∙ ap flat_text (sym (get_or_past (part_texts neutral all) k [] long)))
          (cases_lt k (length parts))

  -- a body filled by them
  pub filled-flat : (cells : List Cell) → filled given cells ≡ flat_text (filled_text (part_texts neutral (parts_between neutral first end)) cells)
  filled-flat [] = refl
  filled-flat (Byte b ∷ cells) = ap (λ more. Byte b ∷ more) (filled-flat cells)
  filled-flat (Gap k ∷ cells) =
      let texts = part_texts neutral (parts_between neutral first end) in
      ap (λ more. part_between given k ++ more) (filled-flat cells)
      ∙ ap (λ more. more ++ flat_text (filled_text texts cells)) (part-flat k)
      ∙ sym (map-append Byte (get_or ([] ∷ texts) k []) (filled_text texts cells))
  filled-flat (cell ∷ cells) = filled-flat cells

-- what is under numbers that lie over the cells
module _ (was now : List Cell) (a b : ℕ) (order : a ≤ b) (within : b ≤ length was) (numbers : HaveTags was now a b) where
  pub numbers-long : length now ≡ length was
  numbers-long =
      let mid = slice_range now a b in
      let whole = ap length (split_between now a b order) ∙ length-append (take a now) (mid ++ drop b now) ∙ ap (λ n. length (take a now) + n) (length-append mid (drop b now)) in
      omega (arith, whole, ap length numbers, length-append (take a now ++ map untagged mid) (drop b now), length-append (take a now) (map untagged mid), length-map mid untagged)

  pub untagged-numbers : map untagged (slice_range now a b) ≡ slice_range was a b
  untagged-numbers =
      let size = numbers-long in
      let mid = map untagged (slice_range now a b) in
      let long : length mid ≡ b - a = length-map (slice_range now a b) untagged ∙ length-between now a b (omega (arith, within, size)) in
      let front : length (take a now) ≡ a = length-take-le a now (omega (arith, order, within, size)) in
      let middle : slice_range (take a now ++ mid ++ drop b now) a b ≡ mid = same_lists _ _ (search (rules, places)) (λ i d less. grind (arith, places)) in
      sym middle ∙ ap (λ l. slice_range l a b) numbers

  -- only the first of the cells have numbers
  pub numbers-fewer : (n : ℕ) → n ≤ length (slice_range now a b) → map untagged (drop n (slice_range now a b)) ≡ drop n (slice_range now a b) → HaveTags was now a (a + n)
  numbers-fewer n few others =
      let size = numbers-long in
      let part = slice_range now a b in
      let long : length part ≡ b - a = length-between now a b (omega (arith, within, size)) in
      let some : n ≤ b - a = omega (arith, few, long) in
      let inside : b ≤ length now = omega (arith, within, size) in
      let front : slice_range now a (a + n) ≡ take n part = same_lists _ _ (search (rules, places)) (λ i d less. grind (arith, places)) in
      let rest : drop (a + n) now ≡ drop n part ++ drop b now = same_lists _ _ (search (rules, places)) (λ i d less. grind (arith, places)) in
      let whole : map untagged part ≡ map untagged (take n part) ++ drop n part = ap (map untagged) (sym (take-append-drop n part)) ∙ map-append untagged (take n part) (drop n part) ∙ ap (λ l. map untagged (take n part) ++ l) others in
      ap (λ l. take a now ++ map untagged l ++ drop (a + n) now) front
      ∙ ap (λ l. take a now ++ map untagged (take n part) ++ l) rest
      ∙ sym (append_assoc (take a now ++ map untagged (take n part)) (drop n part) (drop b now))
      ∙ ap (λ l. l ++ drop b now) (append_assoc (take a now) (map untagged (take n part)) (drop n part) ∙ ap (λ l. take a now ++ l) (sym whole))
      ∙ numbers
