use Rattle.trac_space.proofs.Imports.{◌∙◌, arith, refl, length, ap, length-map, Byte}
use Rattle.trac_space.proofs.BlockChanges.{sizes, shown, maps, tagged-more, parts-append, parts_of}
use Rattle.trac_space.proofs.CommaPlaces.{no_comma-append, no_comma-bytes}
use Rattle.trac_space.proofs.Seen.{seen-bytes, no_call-bytes}
use Rattle.trac_space.proofs.space.Space.put_bytes.Goals as goal

pub returns : goal.returns
returns c =
    let size = sizes c.self.invariant c.self.view_is in
    let long = ap length c.write_bytes.ensures ∙ length-map c.args.text.now Byte in
    let moved = parts-append c.self.invariant c.write_bytes.new.cells _ (length c.args.text.now) (omega (arith, long)) (omega arith) refl in
    rw (← c.self.view_is) (shown _ moved ∙ simp (maps, c.write_bytes.ensures, seen-bytes c.args.text.now))

-- no byte is a call mark, or a comma mark
pub invariant_of-self : goal.invariant_of-self
invariant_of-self c =
    let h = c.self.invariant in
    let size = sizes h c.self.view_is in
    let long = ap length c.write_bytes.ensures ∙ length-map c.args.text.now Byte in
    let moved = parts-append h c.write_bytes.new.cells _ (length c.args.text.now) (omega (arith, long)) (omega arith) refl in
    tagged-more _ h moved refl (omega arith) (omega arith) c.write_bytes.new.cells refl refl
    (rw (c.write_bytes.ensures, seen-bytes c.args.text.now) (no_call-bytes c.args.text.now))
    (no_comma-append (parts_of c.self.inside).neutral _ h.no_comma c.write_bytes.new.cells (rw c.write_bytes.ensures (no_comma-bytes c.args.text.now)))
