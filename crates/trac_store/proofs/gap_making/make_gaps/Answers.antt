use Rattle.trac_store.proofs.Imports.{◌≡◌, ℕ, ◌+◌, ◌-◌, ◌≤◌, List, ◌++◌, length, take, drop, set, slice_range, refl, sym, ap, subst, ◌∙◌, arith, length-set, length-append, length-take-le, length-map, length-between, drop-set-lt, Cell, Gap, Lists, character_of, untagged, tagged_text, segment_cells, text_cells_at, IsFirst, NonePasses}
use Rattle.trac_store.proofs.Gaps.{moved-len, moved-rest, written-gap, written-end}
use Rattle.trac_store.proofs.gap_making.make_gaps.Goals as goal
use Rattle.trac_store.proofs.gap_making.make_gaps.Goals.{After-next_place}

-- the text, which stays
abbrev text : After-next_place → List ℕ
text c = tagged_text (slice_range c.args.space.now.neutral c.args.text.from c.args.text.to)

same_text : (c : After-next_place) → tagged_text (slice_range c.loop-place.space.neutral c.args.text.from c.args.text.to) ≡ text c
same_text c = ap (λ (l : Lists). tagged_text (slice_range l.neutral c.args.text.from c.args.text.to)) c.loop-place.invariant.others

-- the cells that are still to be read are as they were
same_cells : (c : After-next_place) → slice_range c.loop-place.space.store c.loop-place.read c.args.body.to ≡ slice_range c.args.space.now.store c.loop-place.read c.args.body.to
same_cells c = ap (take (c.args.body.to - c.loop-place.read)) c.loop-place.invariant.rest

long : (c : After-next_place) → length (text c) ≡ c.args.text.to - c.args.text.from
long c =
    let part = slice_range c.args.space.now.neutral c.args.text.from c.args.text.to in
    length-map part (λ cell. character_of (untagged cell)) ∙ length-between c.args.space.now.neutral c.args.text.from c.args.text.to c.requires.text.within

-- a write to the store leaves the others
keep_others : (s l n : Lists) (store : List Cell) → l ≡ record s { store = l.store } → n ≡ record l { store = store } → n ≡ record s { store = n.store }
keep_others s l n store first second =
    second ∙ ap (λ (v : Lists). record v { store = store }) first ∙ ap (λ cells. record s { store = cells }) (sym (ap (λ (v : Lists). v.store) second))

pub loop-place-preserved : goal.loop-place-preserved
loop-place-preserved c =
    let k = (goal.at.loop-place-preserved c).After-next_place in
    let s = c.args.space.now in
    let h = c.loop-place.invariant in
    let now = c.loop-place.space in
    let read = c.loop-place.read in
    let write = c.loop-place.write in
    let place = c.in-Some.place in
    let n = place - read in
    let len = c.args.text.to - c.args.text.from in
    let found = c.in-Some.ensures in
    let order : write ≤ read = h.order in
    let up : read ≤ place = found.0 in
    let within : place ≤ length s.store = omega (arith, found.1, c.requires.body.within) in
    let moved = c.move_in_store.ensures in
    let store : c.move_in_store.new.self.store ≡ take write now.store ++ slice_range now.store read place ++ drop (write + n) now.store = ap (λ (l : Lists). l.store) moved in
    let mid = c.move_in_store.new.self.store in
    let after = c.write_store.ensures in
    let last : c.write_store.new.self.store ≡ set mid (write + n) (Gap c.args.ordinal) = ap (λ (l : Lists). l.store) after in
    let first : IsFirst (text_cells_at (text k) (slice_range s.store read c.args.body.to)) 0 (length (slice_range s.store read c.args.body.to)) n =
    subst (λ cells. IsFirst (text_cells_at (text k) cells) 0 (length cells) n) (same_cells k) (subst (λ t. IsFirst (text_cells_at t (slice_range now.store read c.args.body.to)) 0 (length (slice_range now.store read c.args.body.to)) n) (same_text k) found.2) in
    let size = long k in
    let gap = written-gap s.store now.store mid read write place order up within h.len h.rest store (text k) c.args.ordinal c.args.body.to _ c.requires.body.within h.written (omega (arith, size, c.requires.text.some)) (omega (arith, size, found.1)) first.before first.passes in
    let e : place + length (text k) ≡ place + len = ap (λ m. place + m) size in
    record {
      others = keep_others s c.move_in_store.new.self c.write_store.new.self _ (keep_others s now c.move_in_store.new.self _ h.others moved) after;
      len = ap length last ∙ length-set mid (write + n) (Gap c.args.ordinal) ∙ moved-len s.store now.store mid read write place order up within h.len h.rest store;
      lower = omega (arith, h.lower);
      order = omega (arith, order, up, c.requires.text.some);
      upper = found.1;
      rest = ap (drop (place + len)) last ∙ drop-set-lt (place + len) mid (write + n) (Gap c.args.ordinal) (omega (arith, order, up, c.requires.text.some)) ∙ moved-rest s.store now.store mid read write place order up within h.len h.rest store (place + len) (omega (arith, order, up)) (omega (arith, up));
      written = ap (λ l. take (write + n + 1) l ++ segment_cells (text k) c.args.ordinal 0 (slice_range s.store (place + len) c.args.body.to)) last ∙ ap (λ m. take (write + n + 1) (set mid (write + n) (Gap c.args.ordinal)) ++ segment_cells (text k) c.args.ordinal 0 (slice_range s.store m c.args.body.to)) (sym e) ∙ gap;
    }

-- no occurrence is left
none : (c : After-next_place) → NonePasses (text_cells_at (tagged_text (slice_range c.loop-place.space.neutral c.args.text.from c.args.text.to)) (slice_range c.loop-place.space.store c.loop-place.read c.args.body.to)) 0 (length (slice_range c.loop-place.space.store c.loop-place.read c.args.body.to)) → NonePasses (text_cells_at (text c) (slice_range c.args.space.now.store c.loop-place.read c.args.body.to)) 0 (length (slice_range c.args.space.now.store c.loop-place.read c.args.body.to))
none c passes =
    subst (λ cells. NonePasses (text_cells_at (text c) cells) 0 (length cells)) (same_cells c) (subst (λ t. NonePasses (text_cells_at t (slice_range c.loop-place.space.store c.loop-place.read c.args.body.to)) 0 (length (slice_range c.loop-place.space.store c.loop-place.read c.args.body.to))) (same_text c) passes)

pub returns-clause-after : goal.returns-clause-after
returns-clause-after c =
    let k = (goal.at.returns-clause-after c).After-next_place in
    let s = c.args.space.now in
    let h = c.loop-place.invariant in
    let now = c.loop-place.space in
    let read = c.loop-place.read in
    let write = c.loop-place.write in
    let to = c.args.body.to in
    let mid = c.move_in_store-2.new.self in
    let moved = c.move_in_store-2.ensures in
    let store : mid.store ≡ take write now.store ++ slice_range now.store read to ++ drop (write + (to - read)) now.store = ap (λ (l : Lists). l.store) moved in
    let front = written-end s.store now.store mid.store read write to h.order h.upper c.requires.body.within h.len h.rest store (text k) c.args.ordinal to _ c.requires.body.within h.written refl (none k c.in_default.ensures) in
    let rest = moved-rest s.store now.store mid.store read write to h.order h.upper c.requires.body.within h.len h.rest store to (omega (arith, h.order, h.upper)) h.upper in
    c.remove_store.ensures ∙ ap (λ (l : Lists). record l { store = take (write + (to - read)) mid.store ++ drop to mid.store }) (keep_others s now mid _ h.others moved) ∙ ap (λ cells. record s { store = cells ++ drop to mid.store }) front ∙ ap (λ cells. record s { store = take c.args.body.from s.store ++ segment_cells (text k) c.args.ordinal 0 (slice_range s.store c.args.body.from to) ++ cells }) rest

pub returns-clause-end : goal.returns-clause-end
returns-clause-end c =
    let k = (goal.at.returns-clause-end c).After-next_place in
    let s = c.args.space.now in
    let h = c.loop-place.invariant in
    let now = c.loop-place.space in
    let read = c.loop-place.read in
    let write = c.loop-place.write in
    let to = c.args.body.to in
    let mid = c.move_in_store-2.new.self in
    let store : mid.store ≡ take write now.store ++ slice_range now.store read to ++ drop (write + (to - read)) now.store = ap (λ (l : Lists). l.store) c.move_in_store-2.ensures in
    let front = written-end s.store now.store mid.store read write to h.order h.upper c.requires.body.within h.len h.rest store (text k) c.args.ordinal to _ c.requires.body.within h.written refl (none k c.in_default.ensures) in
    let size = moved-len s.store now.store mid.store read write to h.order h.upper c.requires.body.within h.len h.rest store in
    let order = h.order in
    let upper = h.upper in
    omega (arith, ap length front, length-append (take c.args.body.from s.store) (segment_cells (text k) c.args.ordinal 0 (slice_range s.store c.args.body.from to)), length-take-le (write + (to - read)) mid.store (omega (arith, size, order, upper, c.requires.body.within)), length-take-le c.args.body.from s.store (omega (arith, c.requires.body.order, c.requires.body.within)))
