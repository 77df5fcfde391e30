use Rattle.trac_space.proofs.Imports.{◌≡◌, ℕ, ◌+◌, ◌≤◌, List, length, ◌∙◌, take, drop, map, arith, rules, refl, length-map, places, seen}
use Rattle.trac_space.proofs.BlockChanges.{sizes, shown, maps, tagged, parts-open}
use Rattle.trac_space.proofs.space.Space.open_store.Goals as goal

-- cells of a block, as many as were asked for
of_front : {X Y : Type 0} (f : X → Y) (at n : ℕ) (cells : List X) → at + n ≤ length cells → length (map f (take n (drop at cells))) ≡ n
of_front f at n cells within = search (rules, places, length-map)

pub returns : goal.returns
returns c =
    let h = c.self.invariant in
    let size = sizes h c.self.view_is in
    let moved = parts-open h c.args.n c.copy_higher.new.cells (omega (arith, c.requires)) c.copy_higher.ensures.after in
    (map seen (take c.args.n (drop c.self.inside.store c.copy_higher.new.cells)), of_front seen c.self.inside.store c.args.n c.copy_higher.new.cells (omega (arith, c.copy_higher.ensures.len, h.fits, h.behind, c.requires)), rw (← c.self.view_is) (shown _ moved ∙ simp maps))

-- neutral is as it was
pub invariant_of-self : goal.invariant_of-self
invariant_of-self c =
    let h = c.self.invariant in
    let size = sizes h c.self.view_is in
    let moved = parts-open h c.args.n c.copy_higher.new.cells (omega (arith, c.requires)) c.copy_higher.ensures.after in
    tagged _ h moved refl (omega arith) (omega arith) h.calls h.linked h.no_comma
