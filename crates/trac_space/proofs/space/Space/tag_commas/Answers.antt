use Rattle.trac_space.proofs.Imports.{◌≡◌, ◌+◌, ◌-◌, ◌++◌, ◌∙◌, All, ap, arith, refl, sym, subst, length, map, take, drop, slice_range, length-map, length-between, take-map, drop-map, seen, NoComma, HaveCommas, Lists, lists}
use Rattle.trac_space.specs.Tags.{untagged, HaveTags}
use Rattle.trac_space.proofs.BlockChanges.{sizes, shown, tagged, parts-in_neutral, parts_of, neutral-part}
use Rattle.trac_space.proofs.Calls.{marks-numbered, marks-calls, marks-linked}
use Rattle.trac_space.proofs.TaggedCommas.{Takes}
use Rattle.trac_space.proofs.Cleared.{in-middle, numbers-middle, numbers-seen}
use Rattle.trac_space.proofs.SeenParts.{takes-from-seen, all-numbered-seen, commas-seen}
use Rattle.trac_space.proofs.CommaPlaces.{no_comma-part, no_comma-untagged, untagged-tagged}
use Rattle.trac_space.proofs.space.Space.tag_commas.Goals as goal
use Rattle.trac_space.proofs.space.Space.tag_commas.Goals.{After-tag_commas, After-self}

-- the cells as they stand in the block, and as they are seen
part_is : (c : After-self) → slice_range c.self.inside.cells.now (c.self.inside.store + c.args.first) (c.self.inside.store + c.args.end) ≡ slice_range (parts_of c.self.inside).neutral c.args.first c.args.end
part_is c =
    let size = sizes c.self.invariant c.self.view_is in
    neutral-part c.self.invariant c.args.first c.args.end c.requires.order (omega (arith, c.requires.within, size.neutral))

takes : (c : After-self) → All Takes (slice_range (parts_of c.self.inside).neutral c.args.first c.args.end)
takes c =
    let neutral = (parts_of c.self.inside).neutral in
    let shown_is : slice_range c.args.self.now.neutral c.args.first c.args.end ≡ map seen (slice_range neutral c.args.first c.args.end) =
    ap (λ (l : Lists). slice_range l.neutral c.args.first c.args.end) (sym c.self.view_is) ∙ simp (take-map, drop-map) refl in
    takes-from-seen (slice_range neutral c.args.first c.args.end) (subst (All Takes) shown_is c.requires.takes)

pub tag_commas-requires-clause-takes : goal.tag_commas-requires-clause-takes
tag_commas-requires-clause-takes c =
    let k = (goal.at.tag_commas-requires-clause-takes c).After-self in
    subst (All Takes) (sym (part_is k)) (takes k)

pub tag_commas-requires-clause-within : goal.tag_commas-requires-clause-within
tag_commas-requires-clause-within c =
    let k = (goal.at.tag_commas-requires-clause-within c).After-self in
    let size = sizes c.self.invariant c.self.view_is in
    let long = ap length (part_is k) ∙ length-between (parts_of c.self.inside).neutral c.args.first c.args.end (omega (arith, c.requires.within, size.neutral, size.cells)) in
    omega (arith, long, c.min.ensures, c.max.ensures, c.requires.order)

pub tag_commas-requires-clause-no_comma_from : goal.tag_commas-requires-clause-no_comma_from
tag_commas-requires-clause-no_comma_from c =
    let k = (goal.at.tag_commas-requires-clause-no_comma_from c).After-self in
    let n = c.min.result - c.args.first in
    subst (λ l. NoComma (drop n l)) (sym (part_is k)) (no_comma-part (parts_of c.self.inside).neutral c.self.inside.no_comma_from c.args.first c.args.end n (λ less. omega (arith, c.min.ensures, c.max.ensures, c.requires.order, less)) c.self.invariant.no_comma)

same_under : (c : After-tag_commas) → slice_range c.self.inside.cells.now (c.self.inside.store + c.args.first) (c.self.inside.store + c.args.end) ≡ slice_range (parts_of c.self.inside).neutral c.args.first c.args.end → map untagged c.tag_commas.new.cells ≡ slice_range (parts_of c.self.inside).neutral c.args.first c.args.end
same_under c is = c.tag_commas.ensures.same ∙ is

long : (c : After-tag_commas) → map untagged c.tag_commas.new.cells ≡ slice_range (parts_of c.self.inside).neutral c.args.first c.args.end → length c.tag_commas.new.cells ≡ c.args.end - c.args.first
long c is =
    let size = sizes c.self.invariant c.self.view_is in
    sym (length-map c.tag_commas.new.cells untagged) ∙ ap length is ∙ length-between (parts_of c.self.inside).neutral c.args.first c.args.end (omega (arith, c.requires.within, size.neutral, size.cells))

pub returns-clause-commas : goal.returns-clause-commas
returns-clause-commas c =
    let at = goal.at.returns-clause-commas c in
    let size = sizes c.self.invariant c.self.view_is in
    let new = c.tag_commas.new.cells in
    let neutral = (parts_of c.self.inside).neutral in
    let is = same_under at.After-tag_commas (part_is at.After-self) in
    let all : map seen new ≡ new = all-numbered-seen new (subst (All Takes) (sym is) (takes at.After-self)) in
    let moved = parts-in_neutral c.self.invariant c.args.first c.args.end _ _ c.requires.order (omega (arith, c.requires.within, size.neutral)) (long at.After-tag_commas is) refl in
    let view = ap (λ (l : Lists). slice_range l.neutral c.args.first c.args.end) (shown c.self.inside.active moved) in
    let middle : slice_range (map seen (take c.args.first neutral ++ new ++ drop c.args.end neutral)) c.args.first c.args.end ≡ map seen new = simp (take-map, drop-map) (ap (map seen) (in-middle neutral new c.args.first c.args.end c.requires.order (omega (arith, c.requires.within, size.neutral, size.cells)) (long at.After-tag_commas is))) in
    subst (λ l. HaveCommas l c.tag_commas.result) (sym (view ∙ middle)) (commas-seen new c.tag_commas.result all c.tag_commas.ensures.commas)

pub returns-clause-numbers : goal.returns-clause-numbers
returns-clause-numbers c =
    let at = goal.at.returns-clause-numbers c in
    let size = sizes c.self.invariant c.self.view_is in
    let new = c.tag_commas.new.cells in
    let neutral = (parts_of c.self.inside).neutral in
    let is = same_under at.After-tag_commas (part_is at.After-self) in
    let moved = parts-in_neutral c.self.invariant c.args.first c.args.end _ _ c.requires.order (omega (arith, c.requires.within, size.neutral)) (long at.After-tag_commas is) refl in
    let view = ap (λ (l : Lists). l.neutral) (shown c.self.inside.active moved) in
    let raw = numbers-middle neutral new c.args.first c.args.end c.requires.order (omega (arith, c.requires.within, size.neutral, size.cells)) (long at.After-tag_commas is) is in
    let old = ap (λ (l : Lists). l.neutral) c.self.view_is in
    let now = take c.args.first neutral ++ new ++ drop c.args.end neutral in
    let seen_are = numbers-seen neutral now c.args.first c.args.end raw in
    subst (λ l. HaveTags c.args.self.now.neutral l c.args.first c.args.end) (sym view) (subst (λ l. HaveTags l (map seen now) c.args.first c.args.end) old seen_are)

pub returns-clause-same : goal.returns-clause-same
returns-clause-same c =
    let at = goal.at.returns-clause-same c in
    let size = sizes c.self.invariant c.self.view_is in
    let is = same_under at.After-tag_commas (part_is at.After-self) in
    let moved = parts-in_neutral c.self.invariant c.args.first c.args.end _ _ c.requires.order (omega (arith, c.requires.within, size.neutral)) (long at.After-tag_commas is) refl in
    let view = shown c.self.inside.active moved in
    rw (← c.self.view_is) (view ∙ ap (λ cells. record (lists c.self.inside) { neutral = cells }) (sym (ap (λ (l : Lists). l.neutral) view)))

-- no call mark comes or goes, nor a comma mark
pub invariant_of-self : goal.invariant_of-self
invariant_of-self c =
    let at = goal.at.invariant_of-self c in
    let h = c.self.invariant in
    let size = sizes h c.self.view_is in
    let neutral = (parts_of c.self.inside).neutral in
    let is = same_under at.After-tag_commas (part_is at.After-self) in
    let moved = parts-in_neutral h c.args.first c.args.end _ _ c.requires.order (omega (arith, c.requires.within, size.neutral)) (long at.After-tag_commas is) refl in
    let raw = numbers-middle neutral c.tag_commas.new.cells c.args.first c.args.end c.requires.order (omega (arith, c.requires.within, size.neutral, size.cells)) (long at.After-tag_commas is) is in
    let same = marks-numbered neutral _ c.args.first c.args.end c.requires.order raw in
    tagged _ h moved refl (omega arith) (omega arith) (marks-calls neutral _ same _ h.calls) (marks-linked neutral _ same h.linked) (no_comma-untagged neutral c.self.inside.no_comma_from h.no_comma _ (untagged-tagged neutral _ c.args.first c.args.end c.requires.order raw))
