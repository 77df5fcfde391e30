use Rattle.trac_space.proofs.Imports.{◌≡◌, ◌+◌, ◌-◌, ◌∙◌, arith, refl}
use Rattle.trac_space.proofs.BlockChanges.{sizes, shown, maps, tagged, parts-tag_of}
use Rattle.trac_space.proofs.space.Space.write_part.Goals as goal

pub returns : goal.returns
returns c =
    let size = sizes c.self.invariant c.self.view_is in
    let end : c.self.inside.store + c.args.a + (c.args.b - c.args.a) ≡ c.self.inside.store + c.args.b = omega arith in
    let moved = parts-tag_of c.self.invariant c.args.at c.args.a c.args.b _ c.requires.order (omega arith) (omega arith) (rw end at c.copy_apart.ensures.after) in
    rw (← c.self.view_is) (shown _ moved ∙ simp maps)

-- neutral is as it was
pub invariant_of-self : goal.invariant_of-self
invariant_of-self c =
    let h = c.self.invariant in
    let size = sizes h c.self.view_is in
    let end : c.self.inside.store + c.args.a + (c.args.b - c.args.a) ≡ c.self.inside.store + c.args.b = omega arith in
    let moved = parts-tag_of h c.args.at c.args.a c.args.b _ c.requires.order (omega arith) (omega arith) (rw end at c.copy_apart.ensures.after) in
    tagged _ h moved refl (omega arith) (omega arith) h.calls h.linked h.no_comma
