use Rattle.trac_space.proofs.Imports.{◌≡◌, ◌+◌, ◌-◌, ◌++◌, List, length, map, slice_range, refl, sym, ap, ◌∙◌, arith, length-map, take-map, drop-map, Cell, lists, seen, filled, Lists}
use Rattle.trac_space.specs.Tags.{untagged}
use Rattle.trac_space.proofs.BlockChanges.{sizes, shown, tagged, parts_of, parts-more, parts-kept, neutral-part, store-part}
use Rattle.trac_space.proofs.Cleared.{seen-untagged}
use Rattle.trac_space.proofs.Seen.{seen-more_active}
use Rattle.trac_space.proofs.SeenParts.{commas-from-seen, filled-seen}
use Rattle.trac_space.proofs.space.Space.load_filled.Goals as goal
use Rattle.trac_space.proofs.space.Space.load_filled.Goals.{After-fill_cells, After-self}

-- the cells that are given, as they stand in the block, and as they are seen
abbrev given : After-self → List Cell
given c =
    let s = c.self.inside in
    slice_range s.cells.now (s.store + c.args.first) (s.store + c.args.end)

given_seen : (c : After-self) → map seen (given c) ≡ slice_range c.args.self.now.neutral c.args.first c.args.end
given_seen c =
    let s = c.self.inside in
    let size = sizes c.self.invariant c.self.view_is in
    ap (map seen) (neutral-part c.self.invariant c.args.first c.args.end c.requires.given_order (omega (arith, c.requires.given_within, size.neutral)))
    ∙ simp (take-map, drop-map) refl
    ∙ ap (λ (l : Lists). slice_range l.neutral c.args.first c.args.end) c.self.view_is

end_is : (c : After-self) → c.self.inside.store + c.args.first + (c.args.end - c.args.first) ≡ c.self.inside.store + c.args.end
end_is c = omega (arith, c.requires.given_order)

pub fill_cells-requires : goal.fill_cells-requires
fill_cells-requires c =
    let k = (goal.at.fill_cells-requires c).After-self in
    let s = c.self.inside in
    let h = c.self.invariant in
    let size = sizes h c.self.view_is in
    let end = end_is k in
    record {
      order = c.requires.order;
      before = omega (arith, c.requires.within, size.store);
      behind = omega (arith, end, c.requires.given_within, size.neutral);
      room = omega (arith, h.fits);
      inside = omega (arith, h.behind);
      table = record {
        inside = omega (arith, end, c.requires.given_within, size.neutral, h.fits, h.behind);
        bounded = omega (arith, h.bounded);
        commas = rw end (commas-from-seen (given k) _ c.args.commas (given_seen k) c.requires.commas);
      };
    }

-- what is put, as it stands in the block
abbrev more : After-fill_cells → List Cell
more c =
    let s = c.self.inside in
    filled (map untagged (slice_range s.cells.now (s.store + c.args.first) (s.store + c.args.first + (c.args.end - c.args.first)))) (slice_range s.cells.now c.args.a c.args.b)

-- what is put, as contracts see it
is_seen : (c : After-fill_cells) → map seen (slice_range c.self.inside.cells.now (c.self.inside.store + c.args.first) (c.self.inside.store + c.args.end)) ≡ slice_range c.args.self.now.neutral c.args.first c.args.end → map seen (more c) ≡ filled (map untagged (slice_range c.args.self.now.neutral c.args.first c.args.end)) (slice_range c.args.self.now.store c.args.a c.args.b)
is_seen c shown_given =
    let s = c.self.inside in
    let size = sizes c.self.invariant c.self.view_is in
    let end : s.store + c.args.first + (c.args.end - c.args.first) ≡ s.store + c.args.end = omega (arith, c.requires.given_order) in
    let raw = slice_range s.cells.now (s.store + c.args.first) (s.store + c.args.end) in
    let items : map seen (slice_range s.cells.now c.args.a c.args.b) ≡ slice_range c.args.self.now.store c.args.a c.args.b =
    ap (map seen) (store-part c.self.invariant c.args.a c.args.b c.requires.order (omega (arith, c.requires.within, size.store)))
    ∙ simp (take-map, drop-map) refl
    ∙ ap (λ (l : Lists). slice_range l.store c.args.a c.args.b) c.self.view_is in
    ap (λ e. map seen (filled (map untagged (slice_range s.cells.now (s.store + c.args.first) e)) (slice_range s.cells.now c.args.a c.args.b))) end
    ∙ filled-seen (map untagged raw) (slice_range s.cells.now c.args.a c.args.b)
    ∙ ap (λ l. filled l (map seen (slice_range s.cells.now c.args.a c.args.b))) (seen-untagged raw ∙ ap (map untagged) shown_given)
    ∙ ap (filled (map untagged (slice_range c.args.self.now.neutral c.args.first c.args.end))) items

-- how many cells are put
long : (c : After-fill_cells) → map seen (more c) ≡ filled (map untagged (slice_range c.args.self.now.neutral c.args.first c.args.end)) (slice_range c.args.self.now.store c.args.a c.args.b) → length (filled (map untagged (slice_range c.args.self.now.neutral c.args.first c.args.end)) (slice_range c.args.self.now.store c.args.a c.args.b)) ≡ length (more c)
long c is = sym (ap length is) ∙ length-map (more c) seen

pub returns-in-Some : goal.returns-in-Some
returns-in-Some c =
    let at = goal.at.returns-in-Some c in
    let k = at.After-fill_cells in
    let s = c.self.inside in
    let h = c.self.invariant in
    let size = sizes h c.self.view_is in
    let put = c.in-Some.ensures in
    let start = put.put.0 in
    let low = put.put.1 in
    let n = s.end - s.active - c.in-Some.start in
    let is = is_seen k (given_seen at.After-self) in
    let n_is : length (more k) ≡ n = omega (arith, start) in
    let moved = parts-more h (more k) c.fill_cells.new.cells n c.in-Some.start n_is (omega (arith, start, h.fits)) low (record { len = put.len; front = put.front }) put.put.2 in
    let put_is = filled (map untagged (slice_range c.args.self.now.neutral c.args.first c.args.end)) (slice_range c.args.self.now.store c.args.a c.args.b) in (
      long k is ∙ n_is,
      omega (arith, low, n_is, start, size.store, size.neutral, size.active, size.index_area, size.room, h.fits, h.behind),
      shown (s.active + n) moved
          ∙ seen-more_active (parts_of s) s.active n (more k) n_is
          ∙ ap (λ (cells : List Cell). record (lists s) { active = cells ++ (lists s).active }) is
          ∙ ap (λ (l : Lists). record l { active = put_is ++ l.active }) c.self.view_is,
    )

pub returns-in-None : goal.returns-in-None
returns-in-None c =
    let at = goal.at.returns-in-None c in
    let k = at.After-fill_cells in
    let s = c.self.inside in
    let h = c.self.invariant in
    let size = sizes h c.self.view_is in
    let put = c.in-None.ensures in
    let past = put.put in
    let all = long k (is_seen k (given_seen at.After-self)) in (
      shown s.active (parts-kept h c.fill_cells.new.cells (record { len = put.len; front = put.front }) put.behind) ∙ c.self.view_is,
      omega (arith, past, all, size.store, size.neutral, size.active, size.index_area, size.room, h.fits, h.behind),
    )

pub invariant_of-self : goal.invariant_of-self
invariant_of-self c =
    let k = (goal.at.invariant_of-self c).After-fill_cells in
    let s = c.self.inside in
    let h = c.self.invariant in
    let fits = h.fits in
    let behind = h.behind in
    let put = c.in-Some.ensures in
    let start = put.put.0 in
    let low = put.put.1 in
    let n = s.end - s.active - c.in-Some.start in
    let n_is : length (more k) ≡ n = omega (arith, start) in
    let moved = parts-more h (more k) c.fill_cells.new.cells n c.in-Some.start n_is (omega (arith, start, fits)) low (record { len = put.len; front = put.front }) put.put.2 in
    tagged _ h moved refl (omega (arith, fits, low, start, n_is)) (omega (arith, behind)) h.calls h.linked h.no_comma

pub invariant_of-self-in-None : goal.invariant_of-self-in-None
invariant_of-self-in-None c =
    let h = c.self.invariant in
    let fits = h.fits in
    let put = c.in-None.ensures in
    tagged _ h (parts-kept h c.fill_cells.new.cells (record { len = put.len; front = put.front }) put.behind) refl (omega (arith, fits)) (omega (arith, h.behind)) h.calls h.linked h.no_comma
