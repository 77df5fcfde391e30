use Rattle.trac_space.proofs.Imports.{◌≡◌, ◌-◌, ◌∙◌, ap, arith, refl, length, map, slice_range, length-map, length-between}
use Rattle.trac_space.specs.Tags.{untagged}
use Rattle.trac_space.proofs.BlockChanges.{sizes, shown, maps, tagged, parts-in_neutral, parts_of, neutral-part}
use Rattle.trac_space.proofs.Calls.{marks-cleared, marks-calls, marks-linked}
use Rattle.trac_space.proofs.Cleared.{seen-untagged}
use Rattle.trac_space.proofs.CommaPlaces.{no_comma-untagged, untagged-cleared}
use Rattle.trac_space.proofs.space.Space.clear_neutral_tags.Goals as goal
use Rattle.trac_space.proofs.space.Space.clear_neutral_tags.Goals.{After-clear_tags}

cleared : (c : After-clear_tags) → c.clear_tags.new.cells ≡ map untagged (slice_range (parts_of c.self.inside).neutral c.args.a c.args.b)
cleared c =
    let size = sizes c.self.invariant c.self.view_is in
    c.clear_tags.ensures ∙ ap (map untagged) (neutral-part c.self.invariant c.args.a c.args.b c.requires.order (omega (arith, c.requires.within, size.neutral)))

long : (c : After-clear_tags) → length (map untagged (slice_range (parts_of c.self.inside).neutral c.args.a c.args.b)) ≡ c.args.b - c.args.a
long c =
    let size = sizes c.self.invariant c.self.view_is in
    length-map (slice_range (parts_of c.self.inside).neutral c.args.a c.args.b) untagged ∙ length-between (parts_of c.self.inside).neutral c.args.a c.args.b (omega (arith, c.requires.within, size.neutral, size.cells))

pub returns : goal.returns
returns c =
    let k = (goal.at.returns c).After-clear_tags in
    let size = sizes c.self.invariant c.self.view_is in
    let moved = parts-in_neutral c.self.invariant c.args.a c.args.b _ _ c.requires.order (omega (arith, c.requires.within, size.neutral)) (ap length (cleared k) ∙ long k) refl in
    let is = cleared k in
    rw (← c.self.view_is) (shown _ moved ∙ rw is (simp (maps, seen-untagged)))

-- call marks stay, and comma marks
pub invariant_of-self : goal.invariant_of-self
invariant_of-self c =
    let k = (goal.at.invariant_of-self c).After-clear_tags in
    let h = c.self.invariant in
    let size = sizes h c.self.view_is in
    let neutral = (parts_of c.self.inside).neutral in
    let is = cleared k in
    let moved = parts-in_neutral h c.args.a c.args.b _ _ c.requires.order (omega (arith, c.requires.within, size.neutral)) (ap length is ∙ long k) refl in
    let same = marks-cleared neutral c.args.a c.args.b c.requires.order in
    tagged _ h moved refl (omega arith) (omega arith) (rw is (marks-calls neutral _ same _ h.calls)) (rw is (marks-linked neutral _ same h.linked)) (rw is (no_comma-untagged neutral _ h.no_comma _ (untagged-cleared neutral c.args.a c.args.b c.requires.order)))
