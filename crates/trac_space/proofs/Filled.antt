-- Cells that are put before active with their gaps filled, the last one first.
use Rattle.trac_space.proofs.Imports.{Bool, cond, map, ◌≡◌, ℕ, zero, suc, ◌+◌, ◌-◌, ◌<◌, ◌≤◌, true, false, All, List, [], ◌∷◌, ◌++◌, length, take, drop, get_or, slice_range, Option, Some, None, refl, sym, ap, ◌∙◌, arith, rules, append_assoc, subst, copy_within, places, same_lists}
use Rattle.trac_space.proofs.BlockChanges.{reads}
use Rattle.std.proofs.lemmas.List.Edits.{get_or-between}
use Rattle.std.proofs.lemmas.List.{take-append-drop}
use Rattle.std.proofs.Math.Seq.{drop-append_seam}
use Rattle.std.proofs.lemmas.List.Elements.{All-drop}
use Rattle.trac_space.proofs.Imports.{⊎_elim, ◌⊎◌, put_mid, drop_all, get_or_default, take-map, drop-map, drop-drop, map-append, take-take, append-nil, length-append, length-map, length-take-le, drop_more, get_or-take, All-head, All-tail, length-between, Cell, Byte, Comma, IsByte, is_byte_cell, is_comma}
use Rattle.trac_space.proofs.Imports.{filling, filled, ordinal_of, IsPut, HaveCommas, parts_at, numbered_part, part_between}
use Rattle.trac_space.specs.Filled.{PutsOnly}
use Rattle.trac_space.specs.Tags.{has_tag, untagged, tag_of}

-- what a copy to a place behind leaves
module _ (now new : List Cell) (start to n : ℕ) (apart : start + n ≤ to) (within : to + n ≤ length now) (is : new ≡ copy_within now start (start + n) to) where
  pub copied-low : (low : ℕ) → low ≤ to → take low new ≡ take low now
  copied-low low before = rw is (same_lists _ _ (search (rules, places)) (λ i d less. grind (arith, places)))

  pub copied-last : (r : ℕ) → r ≤ n → drop (to + n - r) new ≡ slice_range now (start + n - r) (start + n) ++ drop (to + n) now
  copied-last r few = rw is (same_lists _ _ (search (rules, places)) (λ i d less. grind (arith, places)))

  pub copied-all : drop to new ≡ slice_range now start (start + n) ++ drop (to + n) now
  copied-all = rw is (same_lists _ _ (search (rules, places)) (λ i d less. grind (arith, places)))

  pub copied-source : (a r : ℕ) → a + r ≤ to → take r (drop a new) ≡ slice_range now a (a + r)
  copied-source a r before = rw is (same_lists _ _ (search (rules, places)) (λ i d less. grind (arith, places)))

  -- the numbers over the first m of the copied cells are taken off
  pub put-cleared : (cleared after : List Cell) (m : ℕ) → m ≤ n → cleared ≡ map untagged (take (to + m - to) (drop to new)) → after ≡ put_mid to (to + m - to) new cleared → map untagged (drop m (slice_range now start (start + n))) ≡ drop m (slice_range now start (start + n)) → (take to after ≡ take to now) × (drop to after ≡ map untagged (slice_range now start (start + n)) ++ drop (to + n) now)
  put-cleared cleared after m few cleared_is after_is others =
      let part = slice_range now start (start + n) in
      let size : to + m - to ≡ m = omega arith in
      let source : take (to + m - to) (drop to new) ≡ take m part = rw is (same_lists _ _ (search (rules, places)) (λ i d less. grind (arith, places))) in
      let cleared_to : cleared ≡ map untagged (take m part) = cleared_is ∙ ap (map untagged) source in
      let long : length cleared ≡ m = ap length cleared_to ∙ length-map (take m part) untagged ∙ length-take-le m part (omega (arith, few, length-between now start (start + n) (omega (arith, apart, within)))) in
      let whole : map untagged part ≡ cleared ++ drop m part = ap (map untagged) (sym (take-append-drop m part)) ∙ map-append untagged (take m part) (drop m part) ∙ ap (λ l. map untagged (take m part) ++ l) others ∙ ap (λ l. l ++ drop m part) (sym cleared_to) in
      let front : take to after ≡ take to now = rw (after_is, is) (same_lists _ _ (search (rules, places)) (λ i d less. grind (arith, reads))) in
      let behind : drop to after ≡ (cleared ++ drop m part) ++ drop (to + n) now = rw (after_is, is) (same_lists _ _ (search (rules, places)) (λ i d less. grind (arith, reads))) in
      (front, behind ∙ ap (λ l. l ++ drop (to + n) now) (sym whole))

part-front : (cells : List Cell) (a b n : ℕ) → b ≤ n → n ≤ length cells → slice_range (take n cells) a b ≡ slice_range cells a b
part-front cells a b n within long = same_lists _ _ (search (rules, places)) (λ i d less. grind (arith, places))

parts-meet : (cells : List Cell) (a b c : ℕ) → a ≤ b → b ≤ c → c ≤ length cells → slice_range cells a c ≡ slice_range cells a b ++ slice_range cells b c
parts-meet cells a b c order up within = same_lists _ _ (search (rules, places)) (λ i d less. grind (arith, places))

module _ (given : List Cell) where
  -- characters stand for themselves
  filled-characters : (cells : List Cell) → All IsByte cells → filled given cells ≡ cells
  filled-characters [] h = refl
  filled-characters (Byte c ∷ cells) h = ap (λ more. Byte c ∷ more) (filled-characters cells (All-tail IsByte (Byte c) cells h))
  filled-characters (cell ∷ cells) h = absurd (All-head IsByte cell cells h)

  filled-append : (cells more : List Cell) → filled given (cells ++ more) ≡ filled given cells ++ filled given more
  filled-append [] more = refl
  filled-append (cell ∷ cells) more =
      ap (λ l. filling given cell ++ l) (filled-append cells more) ∙ sym (append_assoc (filling given cell) (filled given cells) (filled given more))

-- the last of characters that stand right before a place
pub last-bytes : (cells : List Cell) (at n r : ℕ) → r ≤ n → n ≤ at → All IsByte (take n (drop (at - n) cells)) → All IsByte (take r (drop (at - r) cells))
last-bytes cells at n r few within bytes =
    let is : take r (drop (at - r) cells) ≡ drop (n - r) (take n (drop (at - n) cells)) = same_lists _ _ (search (rules, places)) (λ i d less. grind (arith, places)) in
    subst (All IsByte) (sym is) (All-drop IsByte (n - r) (take n (drop (at - n) cells)) bytes)

-- a copy of the cells of `old` from `from` up to `stop`, filled from the given ones, that ends before `last`
-- and begins at `low` or behind
pub record Task : Type 0 where
  pub old : List Cell
  pub given : List Cell
  pub from : ℕ
  pub stop : ℕ
  pub low : ℕ
  pub last : ℕ

-- the copy that a function of `filling` makes: `start` and `len` say where the given cells stand
abbrev pub task : (cells : List Cell) (from stop low to start len : ℕ) → Task
task cells from stop low to start len = record {
  old = cells;
  given = map untagged (slice_range cells start (start + len));
  from = from;
  stop = stop;
  low = low;
  last = to;
}

-- more cells were put right before place `to`, from `lower` on, and those before `low` are left
record PutMore (now new : List Cell) (low lower to : ℕ) (more : List Cell) : Type 0 where
  pub room : low ≤ lower
  pub is_long : lower + length more ≡ to
  pub size : length new ≡ length now
  pub behind : drop lower new ≡ more ++ drop to now
  pub front : take low new ≡ take low now

-- the cells from a place on stand, filled, and those before it are left
pub record FilledFrom (t : Task) (now : List Cell) (at to : ℕ) : Type 0 where
  pub before : t.stop ≤ t.low
  pub inside : t.last ≤ length t.old
  pub done : List Cell
  pub order : t.from ≤ at
  pub within : at ≤ t.stop
  pub room : t.low ≤ to
  pub long : to + length done ≡ t.last
  pub size : length now ≡ length t.old
  pub behind : drop to now ≡ done ++ drop t.last t.old
  pub split : filled t.given (slice_range t.old t.from t.stop) ≡ filled t.given (slice_range t.old t.from at) ++ done
  pub front : take t.low now ≡ take t.low t.old

module _ {t : Task} where
  pub along-start : t.stop ≤ t.low → t.last ≤ length t.old → t.from ≤ t.stop → t.low ≤ t.last → FilledFrom t t.old t.stop t.last
  along-start before inside order room = record {
    before = before;
    inside = inside;
    done = [];
    order = order;
    within = omega arith;
    room = room;
    long = omega arith;
    size = refl;
    behind = refl;
    split = sym (append-nil (filled t.given (slice_range t.old t.from t.stop)));
    front = refl;
  }

  module _ {now : List Cell} {at to : ℕ} (h : FilledFrom t now at to) where
    low-inside : t.low ≤ length t.old
    low-inside = let room = h.room in let long = h.long in omega (arith, h.inside, room, long)

    pub same-part : (a b : ℕ) → b ≤ t.low → slice_range now a b ≡ slice_range t.old a b
    same-part a b within =
        sym (part-front now a b t.low within (omega (arith, low-inside, h.size))) ∙ ap (λ cells. slice_range cells a b) h.front ∙ part-front t.old a b t.low within low-inside

    pub same-cell : (i : ℕ) (d : Cell) → i < t.low → get_or now i d ≡ get_or t.old i d
    same-cell i d less =
        sym (get_or-take t.low now i d less) ∙ ap (λ cells. get_or cells i d) h.front ∙ get_or-take t.low t.old i d less

    pub commas-now : (start end commas : ℕ) → end ≤ t.low → HaveCommas (slice_range t.old start end) commas → HaveCommas (slice_range now start end) commas
    commas-now start end commas within have = subst (λ cells. HaveCommas cells commas) (sym (same-part start end within)) have

    -- more cells that stand for those before
    along-more : (new more : List Cell) (on lower : ℕ) → t.from ≤ on → on ≤ at → PutMore now new t.low lower to more → filled t.given (slice_range t.old on at) ≡ more → FilledFrom t new on lower
    along-more new more on lower order up put next =
        let room = put.room in
        let is_long = put.is_long in
        let within = h.within in
        let meet = parts-meet t.old t.from on at order up (omega (arith, h.before, within, low-inside)) in
        record {
          before = h.before;
          inside = h.inside;
          done = more ++ h.done;
          order = order;
          within = omega (arith, up, within);
          room = room;
          long = omega (arith, length-append more h.done, is_long, h.long);
          size = put.size ∙ h.size;
          behind = put.behind ∙ ap (λ cells. more ++ cells) h.behind ∙ sym (append_assoc more h.done (drop t.last t.old));
          split = h.split
              ∙ ap (λ cells. filled t.given cells ++ h.done) meet
              ∙ ap (λ cells. cells ++ h.done) (filled-append t.given (slice_range t.old t.from on) (slice_range t.old on at) ∙ ap (λ cells. filled t.given (slice_range t.old t.from on) ++ cells) next)
              ∙ append_assoc (filled t.given (slice_range t.old t.from on)) more h.done;
          front = put.front ∙ h.front;
        }

    -- a block is copied, whose last `r` cells are characters
    pub block-run : (new : List Cell) (r : ℕ) → 8 ≤ at → t.low + 8 ≤ to → new ≡ copy_within now (at - 8) (at - 8 + 8) (to - 8) → length new ≡ length now → r ≤ 8 → t.from + r ≤ at → All IsByte (take r (drop (at - r) new)) → FilledFrom t new (at - r) (to - r)
    block-run new r inside fits is same few order bytes =
        let start = at - 8 in
        let lower = to - 8 in
        let start_is : start + 8 ≡ at = omega (arith, inside) in
        let lower_is : lower + 8 ≡ to = omega (arith, fits) in
        let room : t.low ≤ lower = omega (arith, fits) in
        let within = h.within in
        let apart : start + 8 ≤ lower = omega (arith, start_is, h.before, within, room) in
        let long = h.long in
        let reach : lower + 8 ≤ length now = omega (arith, lower_is, h.inside, h.size, long) in
        let end : at - r + r ≡ at = omega (arith, order) in
        let source : take r (drop (at - r) new) ≡ slice_range t.old (at - r) at =
        copied-source now new start lower 8 apart reach is (at - r) r (omega (arith, end, start_is, apart))
        ∙ ap (slice_range now (at - r)) end
        ∙ same-part (at - r) at (omega (arith, h.before, within)) in
        let from_is : start + 8 - r ≡ at - r = ap (λ i. i - r) start_is in
        let to_is : lower + 8 - r ≡ to - r = ap (λ i. i - r) lower_is in
        let behind : drop (to - r) new ≡ slice_range t.old (at - r) at ++ drop to now =
        ap (λ i. drop i new) (sym to_is)
        ∙ copied-last now new start lower 8 apart reach is r few
        ∙ ap (λ i. slice_range now i (start + 8) ++ drop (lower + 8) now) from_is
        ∙ ap (λ i. slice_range now (at - r) i ++ drop (lower + 8) now) start_is
        ∙ ap (λ i. slice_range now (at - r) at ++ drop i now) lower_is
        ∙ ap (λ cells. cells ++ drop to now) (same-part (at - r) at (omega (arith, h.before, within))) in
        let size : length (slice_range t.old (at - r) at) ≡ r = omega (arith, end, length-between t.old (at - r) at (omega (arith, h.before, within, low-inside))) in
        along-more new (slice_range t.old (at - r) at) (at - r) (to - r) (omega (arith, order)) (omega arith)
        (record {
          room = omega (arith, few, room, lower_is);
          is_long = omega (arith, few, lower_is, size);
          size = same;
          behind = behind;
          front = copied-low now new start lower 8 apart reach is t.low room;
        })
        (filled-characters t.given (slice_range t.old (at - r) at) (subst (All IsByte) source bytes))

    module _ (on : ℕ) (next : on + 1 ≡ at) (order : t.from ≤ on) where
      last-cell : filled t.given (slice_range t.old on at) ≡ filling t.given (get_or t.old on Comma)
      last-cell =
          let within = h.within in
          let one : at - on ≡ 1 = omega (arith, next) in
          let is : slice_range t.old on at ≡ get_or t.old on Comma ∷ [] = ap (λ k. take k (drop on t.old)) one ∙ ap (take 1) (drop_more t.old on Comma (omega (arith, next, within, h.before, low-inside))) in
          ap (filled t.given) is ∙ append-nil (filling t.given (get_or t.old on Comma))

      -- these cells fill it
      module _ (cells : List Cell) (n : ℕ) (size : length cells ≡ n) (are : map untagged cells ≡ filling t.given (get_or t.old on Comma)) where
        -- where the cells that fill the last one don't fit the whole doesn't
        pub cell-full : to < t.low + n → t.last < t.low + length (filled t.given (slice_range t.old t.from t.stop))
        cell-full full =
            let within = h.within in
            let meet = parts-meet t.old t.from on at order (omega (arith, next)) (omega (arith, h.before, within, low-inside)) in
            let here = ap length h.split ∙ length-append (filled t.given (slice_range t.old t.from at)) h.done in
            let split = ap (λ l. length (filled t.given l)) meet ∙ ap length (filled-append t.given (slice_range t.old t.from on) (slice_range t.old on at)) ∙ length-append (filled t.given (slice_range t.old t.from on)) (filled t.given (slice_range t.old on at)) in
            let this : length (filled t.given (slice_range t.old on at)) ≡ n = ap length last-cell ∙ ap length (sym are) ∙ length-map cells untagged ∙ size in
            omega (arith, full, here, split, this, h.long)

        -- they are put
        pub cell-put : (new : List Cell) (lower : ℕ) → t.low ≤ lower → lower + n ≡ to → length new ≡ length now → take lower new ≡ take lower now → drop lower new ≡ map untagged cells ++ drop (lower + n) now → FilledFrom t new on lower
        cell-put new lower room is same front behind =
            let long = length-map cells untagged ∙ size in
            along-more new (map untagged cells) on lower order (omega (arith, next))
            (record {
              room = room;
              is_long = omega (arith, long, is);
              size = same;
              behind = behind ∙ ap (λ i. map untagged cells ++ drop i now) is;
              front = sym (take-take t.low lower new room) ∙ ap (take t.low) front ∙ take-take t.low lower now room;
            })
            (last-cell ∙ sym are)

    -- nothing is left
    pub along-end : at ≡ t.from → IsPut t.old now t.low t.last (filled t.given (slice_range t.old t.from t.stop)) (Some to)
    along-end end =
        let none : at - t.from ≡ 0 = omega (arith, end) in
        let all : filled t.given (slice_range t.old t.from t.stop) ≡ h.done = h.split ∙ ap (λ k. filled t.given (take k (drop t.from t.old)) ++ h.done) none in
        (omega (arith, h.long, ap length all), h.room, h.behind ∙ ap (λ cells. cells ++ drop t.last t.old) (sym all))

    -- the others are put by a further call
    pub along-rest : (new : List Cell) (result : Option ℕ) → IsPut now new t.low to (filled t.given (slice_range t.old t.from at)) result → IsPut t.old new t.low t.last (filled t.given (slice_range t.old t.from t.stop)) result
    along-rest new None put =
        omega (arith, put, h.long, ap length h.split, length-append (filled t.given (slice_range t.old t.from at)) h.done)
    along-rest new (Some start) put =
        let rest = filled t.given (slice_range t.old t.from at) in (
          omega (arith, put.0, h.long, ap length h.split, length-append rest h.done),
          put.1,
          put.2 ∙ ap (λ cells. rest ++ cells) h.behind ∙ sym (append_assoc rest h.done (drop t.last t.old)) ∙ ap (λ cells. cells ++ drop t.last t.old) (sym h.split),
        )

    -- what stands behind the last place stays
    pub along-behind : drop t.last now ≡ drop t.last t.old
    along-behind =
        let long = h.long in
        let e : to + (t.last - to) ≡ t.last = omega (arith, long) in
        let d : t.last - to ≡ length h.done = omega (arith, long) in
        ap (λ i. drop i now) (sym e) ∙ sym (drop-drop (t.last - to) to now) ∙ ap (drop (t.last - to)) h.behind
        ∙ ap (λ k. drop k (h.done ++ drop t.last t.old)) d ∙ drop-append_seam h.done (drop t.last t.old)

    -- what is put is known, and nothing else has changed
    pub along-only : (result : Option ℕ) → IsPut t.old now t.low t.last (filled t.given (slice_range t.old t.from t.stop)) result → PutsOnly t.old now t.low t.last (filled t.given (slice_range t.old t.from t.stop)) result
    along-only result put = record { put = put; len = h.size; front = h.front; behind = along-behind }

-- what fills a cell that is no character
pub filling-gap : (given : List Cell) (cell : Cell) → is_byte_cell cell ≡ false → filling given cell ≡ part_between given (ordinal_of cell)
filling-gap given cell is = rw is refl

-- the first part begins where the cells do
parts-first : (from at : ℕ) (cells : List Cell) → (get_or (parts_at from at cells) 0 (0, 0)).0 ≡ from
parts-first from at [] = refl
parts-first from at (cell ∷ cells) = go (is_comma cell) (parts-first from (at + 1) cells)
  where
    go : (b : Bool) → (get_or (parts_at from (at + 1) cells) 0 (0, 0)).0 ≡ from → (get_or (cond b ((from, at) ∷ parts_at (at + 1) (at + 1) cells) (parts_at from (at + 1) cells)) 0 (0, 0)).0 ≡ from
    go true h = refl
    go false h = h

-- each other one begins behind the comma mark that ends the one before
parts-next : (from at : ℕ) (cells : List Cell) (k : ℕ) → suc k < length (parts_at from at cells) → (get_or (parts_at from at cells) (suc k) (0, 0)).0 ≡ (get_or (parts_at from at cells) k (0, 0)).1 + 1
parts-next from at [] k less = absurd (omega (arith, less))
parts-next from at (cell ∷ cells) k less = go (is_comma cell) k (parts-next from (at + 1) cells) (parts-next (at + 1) (at + 1) cells) less
  where
    go : (b : Bool) (k : ℕ) → ((i : ℕ) → suc i < length (parts_at from (at + 1) cells) → (get_or (parts_at from (at + 1) cells) (suc i) (0, 0)).0 ≡ (get_or (parts_at from (at + 1) cells) i (0, 0)).1 + 1) → ((i : ℕ) → suc i < length (parts_at (at + 1) (at + 1) cells) → (get_or (parts_at (at + 1) (at + 1) cells) (suc i) (0, 0)).0 ≡ (get_or (parts_at (at + 1) (at + 1) cells) i (0, 0)).1 + 1) → suc k < length (cond b ((from, at) ∷ parts_at (at + 1) (at + 1) cells) (parts_at from (at + 1) cells)) → (get_or (cond b ((from, at) ∷ parts_at (at + 1) (at + 1) cells) (parts_at from (at + 1) cells)) (suc k) (0, 0)).0 ≡ (get_or (cond b ((from, at) ∷ parts_at (at + 1) (at + 1) cells) (parts_at from (at + 1) cells)) k (0, 0)).1 + 1
    go true zero one other less = parts-first (at + 1) (at + 1) cells
    go true (suc i) one other less = other i (omega (arith, less))
    go false k one other less = one k less

-- the last one ends where they do
parts-last : (from at : ℕ) (cells : List Cell) (k : ℕ) → suc k ≡ length (parts_at from at cells) → (get_or (parts_at from at cells) k (0, 0)).1 ≡ at + length cells
parts-last from at [] zero is = omega arith
parts-last from at [] (suc k) is = absurd (omega (arith, is))
parts-last from at (cell ∷ cells) k is = go (is_comma cell) k (parts-last from (at + 1) cells) (parts-last (at + 1) (at + 1) cells) (parts-some (at + 1) (at + 1) cells) is
  where
    parts-some : (from at : ℕ) (cells : List Cell) → 0 < length (parts_at from at cells)
    parts-some from at [] = omega arith
    parts-some from at (cell ∷ cells) = some (is_comma cell) (parts-some from (at + 1) cells)
      where
        some : (b : Bool) → 0 < length (parts_at from (at + 1) cells) → 0 < length (cond b ((from, at) ∷ parts_at (at + 1) (at + 1) cells) (parts_at from (at + 1) cells))
        some true h = omega arith
        some false h = h

    go : (b : Bool) (k : ℕ) → ((i : ℕ) → suc i ≡ length (parts_at from (at + 1) cells) → (get_or (parts_at from (at + 1) cells) i (0, 0)).1 ≡ at + 1 + length cells) → ((i : ℕ) → suc i ≡ length (parts_at (at + 1) (at + 1) cells) → (get_or (parts_at (at + 1) (at + 1) cells) i (0, 0)).1 ≡ at + 1 + length cells) → 0 < length (parts_at (at + 1) (at + 1) cells) → suc k ≡ length (cond b ((from, at) ∷ parts_at (at + 1) (at + 1) cells) (parts_at from (at + 1) cells)) → (get_or (cond b ((from, at) ∷ parts_at (at + 1) (at + 1) cells) (parts_at from (at + 1) cells)) k (0, 0)).1 ≡ at + suc (length cells)
    go true zero one other some is = absurd (omega (arith, is, some))
    go true (suc i) one other some is = omega (arith, other i (omega (arith, is)))
    go false k one other some is = omega (arith, one k is)

-- it ends at its beginning or behind it, and within the cells
abbrev pub EndsWithin : List (ℕ × ℕ) → ℕ → ℕ → Type 0
EndsWithin parts k end = ((get_or parts k (0, 0)).0 ≤ (get_or parts k (0, 0)).1) × ((get_or parts k (0, 0)).1 ≤ end)

pub parts-within : (from at : ℕ) (cells : List Cell) → from ≤ at → (k : ℕ) → k < length (parts_at from at cells) → EndsWithin (parts_at from at cells) k (at + length cells)
parts-within from at [] order zero less = (order, omega arith)
parts-within from at [] order (suc k) less = absurd (omega (arith, less))
parts-within from at (cell ∷ cells) order k less = go (is_comma cell) k (parts-within from (at + 1) cells (omega (arith, order))) (parts-within (at + 1) (at + 1) cells (omega arith)) less
  where
    go : (b : Bool) (k : ℕ) → ((i : ℕ) → i < length (parts_at from (at + 1) cells) → EndsWithin (parts_at from (at + 1) cells) i (at + 1 + length cells)) → ((i : ℕ) → i < length (parts_at (at + 1) (at + 1) cells) → EndsWithin (parts_at (at + 1) (at + 1) cells) i (at + 1 + length cells)) → k < length (cond b ((from, at) ∷ parts_at (at + 1) (at + 1) cells) (parts_at from (at + 1) cells)) → EndsWithin (cond b ((from, at) ∷ parts_at (at + 1) (at + 1) cells) (parts_at from (at + 1) cells)) k (at + suc (length cells))
    go true zero one other less = (order, omega arith)
    go true (suc i) one other less = let h = other i (omega (arith, less)) in (h.0, omega (arith, h.1))
    go false k one other less = let h = one k less in (h.0, omega (arith, h.1))

-- where the parts lie among cells over which the comma marks' places do
module _ (cells : List Cell) (commas : ℕ) (have : HaveCommas cells commas) where
  pub begin-first : 0 ≡ (numbered_part (parts_at 0 0 (map untagged cells)) 1).0
  begin-first = sym (parts-first 0 0 (map untagged cells))

  pub begin-next : (k : ℕ) → k < commas → tag_of (get_or cells k Comma) + 1 ≡ (numbered_part (parts_at 0 0 (map untagged cells)) (suc (suc k))).0
  begin-next k less = ap (λ n. n + 1) (have.ends k less) ∙ sym (parts-next 0 0 (map untagged cells) k (omega (arith, less, have.all)))

  pub end-last : length cells ≡ (numbered_part (parts_at 0 0 (map untagged cells)) (suc commas)).1
  end-last = omega (arith, length-map cells untagged, parts-last 0 0 (map untagged cells) commas (sym have.all))

  pub part-within : (k : ℕ) → k ≤ commas → ((numbered_part (parts_at 0 0 (map untagged cells)) (suc k)).0 ≤ (numbered_part (parts_at 0 0 (map untagged cells)) (suc k)).1) × ((numbered_part (parts_at 0 0 (map untagged cells)) (suc k)).1 ≤ length cells)
  part-within k less = let h = parts-within 0 0 (map untagged cells) (omega arith) k (omega (arith, less, have.all)) in (h.0, omega (arith, h.1, length-map cells untagged))

-- cells behind those over which numbers lie have none
pub others-in : (cells : List Cell) (start len commas from n : ℕ) → start + len ≤ length cells → HaveCommas (slice_range cells start (start + len)) commas → from + n ≤ len → map untagged (drop (start + commas - (start + from)) (slice_range cells (start + from) (start + from + n))) ≡ drop (start + commas - (start + from)) (slice_range cells (start + from) (start + from + n))
others-in cells start len commas from n inside have within =
    let part = slice_range cells start (start + len) in
    let few = have.within in
    let size : length part ≡ len = omega (arith, length-between cells start (start + len) inside) in
    let m = start + commas - (start + from) in
    let is : drop m (slice_range cells (start + from) (start + from + n)) ≡ take (n - m) (drop (from + m - commas) (drop commas part)) = same_lists _ _ (search (rules, places)) (λ i d less. grind (arith, places)) in
    ap (map untagged) is
    ∙ sym (take-map untagged (n - m) (drop (from + m - commas) (drop commas part)))
    ∙ ap (take (n - m)) (sym (drop-map untagged (from + m - commas) (drop commas part)) ∙ ap (drop (from + m - commas)) have.others)
    ∙ sym is

-- a part as it stands among the cells
pub part-stands : (cells : List Cell) (start len from end : ℕ) → from ≤ end → end ≤ len → start + len ≤ length cells → map untagged (slice_range cells (start + from) (start + from + (end - from))) ≡ slice_range (map untagged (slice_range cells start (start + len))) from end
part-stands cells start len from end order within inside =
    let is : slice_range cells (start + from) (start + from + (end - from)) ≡ slice_range (slice_range cells start (start + len)) from end = same_lists _ _ (search (rules, places)) (λ i d less. grind (arith, places)) in
    ap (map untagged) is ∙ sym (take-map untagged (end - from) (drop from (slice_range cells start (start + len)))) ∙ ap (take (end - from)) (sym (drop-map untagged from (slice_range cells start (start + len))))

-- where no more than those have numbers
pub others-less : (part : List Cell) (n k m : ℕ) → length part ≡ n → ((m ≡ k) ⊎ (m ≡ n)) → map untagged (drop k part) ≡ drop k part → map untagged (drop m part) ≡ drop m part
others-less part n k m size which others =
    ⊎_elim
    (λ is. ap (λ i. map untagged (drop i part)) is ∙ others ∙ ap (λ i. drop i part) (sym is))
    (λ all.
    let none : drop m part ≡ [] = drop_all m part (omega (arith, all, size)) in
    ap (map untagged) none ∙ sym none)
    which

pub numbered-in : (cells : List Cell) (start len k : ℕ) → start + len ≤ length cells → k < len → has_tag (get_or (slice_range cells start (start + len)) k Comma) ≡ true → has_tag (get_or cells (start + k) (Byte 0)) ≡ true
numbered-in cells start len k inside less is =
    ap has_tag (get_or_default cells (start + k) (Byte 0) Comma (omega (arith, less, inside)) ∙ sym (get_or-between cells start (start + len) k Comma (omega (arith, less)))) ∙ is

-- the number over one of the cells
pub number-in : (cells : List Cell) (start len k : ℕ) → start + len ≤ length cells → k < len → tag_of (get_or cells (start + k) (Byte 0)) ≡ tag_of (get_or (slice_range cells start (start + len)) k Comma)
number-in cells start len k inside less =
    ap tag_of (get_or_default cells (start + k) (Byte 0) Comma (omega (arith, less, inside)) ∙ sym (get_or-between cells start (start + len) k Comma (omega (arith, less))))
