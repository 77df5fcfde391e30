use Rattle.trac_space.proofs.Imports.{◌≡◌, ◌+◌, ◌-◌, ◌++◌, ◌∙◌, ap, arith, refl, map, take, slice_range, copy_within, length-between, seen_lists, seen}
use Rattle.trac_space.proofs.BlockChanges.{sizes, shown, maps, tagged, parts-before, neutral-part, parts_of}
use Rattle.trac_space.proofs.Seen.{seen-more_active}
use Rattle.trac_space.proofs.space.Space.load_from_neutral.Goals as goal

pub returns : goal.returns
returns c =
    let s = c.self.inside in
    let h = c.self.invariant in
    let size = sizes h c.self.view_is in
    let end : (s.store + c.args.a) + (c.args.b - c.args.a) ≡ (s.store + c.args.b) = omega arith in
    let moved = parts-before h (s.store + c.args.a) (s.store + c.args.b) (c.args.b - c.args.a) _ (omega arith) (omega arith) (omega arith) (c.copy_apart.ensures.after ∙ ap (λ j. copy_within s.cells.now (s.store + c.args.a) j (s.end - (s.active + (c.args.b - c.args.a)))) end) in
    let part = slice_range s.cells.now (s.store + c.args.a) (s.store + c.args.b) in
    let seen_part = ap (map seen) (neutral-part h c.args.a c.args.b (omega arith) (omega arith)) in
    rw (← c.self.view_is)
    (shown _ moved ∙ seen-more_active (parts_of s) s.active (c.args.b - c.args.a) part (length-between s.cells.now (s.store + c.args.a) (s.store + c.args.b) (omega arith) ∙ omega arith)
    ∙ ap (λ cells. record (seen_lists s.active (parts_of s)) { active = cells ++ take s.active (map seen (parts_of s).right) }) seen_part
    ∙ simp maps)

-- neutral is as it was
pub invariant_of-self : goal.invariant_of-self
invariant_of-self c =
    let s = c.self.inside in
    let h = c.self.invariant in
    let size = sizes h c.self.view_is in
    let end : (s.store + c.args.a) + (c.args.b - c.args.a) ≡ (s.store + c.args.b) = omega arith in
    let moved = parts-before h (s.store + c.args.a) (s.store + c.args.b) (c.args.b - c.args.a) _ (omega arith) (omega arith) (omega arith) (c.copy_apart.ensures.after ∙ ap (λ j. copy_within s.cells.now (s.store + c.args.a) j (s.end - (s.active + (c.args.b - c.args.a)))) end) in
    tagged _ h moved refl (omega arith) (omega arith) h.calls h.linked h.no_comma
