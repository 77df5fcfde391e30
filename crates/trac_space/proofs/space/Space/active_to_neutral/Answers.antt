use Rattle.trac_space.proofs.Imports.{◌++◌, ◌∙◌, take, arith, refl, map-append}
use Rattle.trac_space.proofs.BlockChanges.{parts_of, sizes, shown, tagged-more, parts-to_neutral}
use Rattle.trac_space.proofs.Seen.{seen-drop_active}
use Rattle.trac_space.proofs.Runs.{front-seen, front-bytes}
use Rattle.trac_space.proofs.Characters.{no_call-characters}
use Rattle.trac_space.proofs.CommaPlaces.{no_comma-append, no_comma-characters}
use Rattle.trac_space.proofs.space.Space.active_to_neutral.Goals as goal

pub returns : goal.returns
returns c =
    let s = c.self.inside in
    let size = sizes c.self.invariant c.self.view_is in
    let p = parts_of s in
    let moved = parts-to_neutral c.self.invariant c.args.n _ (omega arith) c.copy_cells.ensures.after in
    let left = seen-drop_active (record p { neutral = p.neutral ++ take c.args.n p.right }) s.active c.args.n (omega arith) in
    record { moved = rw (← c.self.view_is) (shown _ moved ∙ left ∙ simp (map-append, front-seen p.right s.active c.args.n (omega arith))) }

-- neither a call mark nor a comma mark stands in what is moved
pub invariant_of-self : goal.invariant_of-self
invariant_of-self c =
    let h = c.self.invariant in
    let size = sizes h c.self.view_is in
    let right = (parts_of c.self.inside).right in
    let moved = parts-to_neutral h c.args.n _ (omega arith) c.copy_cells.ensures.after in
    tagged-more _ h moved refl (omega arith) (omega arith) (take c.args.n right) refl refl
    (rw (front-seen right c.self.inside.active c.args.n (omega arith)) at (no_call-characters _ (rw (← c.self.view_is) at c.requires.bytes)))
    (no_comma-append (parts_of c.self.inside).neutral _ h.no_comma (take c.args.n right) (no_comma-characters (take c.args.n right) (front-bytes right c.self.inside.active c.args.n (omega arith) (rw (← c.self.view_is) at c.requires.bytes))))
