use Rattle.trac_space.proofs.Imports.{◌≡◌, ◌<◌, ◌∙◌, arith, refl, false, is_call, Byte, get_or, length, set, sym}
use Rattle.trac_space.specs.Tags.{NoCommaFrom}
use Rattle.trac_space.proofs.BlockChanges.{sizes, shown, maps, tagged, parts-write_neutral, parts_of}
use Rattle.trac_space.proofs.Calls.{call-seen, marks-write, marks-calls, marks-linked}
use Rattle.trac_space.proofs.Seen.{seen-no_call}
use Rattle.trac_space.proofs.CommaPlaces.{no_comma-set, no_comma-set_before}
use Rattle.trac_space.proofs.space.Space.write_neutral.Goals.{then-holds_comma, else-holds_comma}
use Rattle.trac_space.proofs.space.Space.write_neutral.Goals as goal

pub returns : goal.returns
returns c =
    let size = sizes c.self.invariant c.self.view_is in
    let moved = parts-write_neutral c.self.invariant c.args.i c.args.cell (omega arith) in
    rw (← c.self.view_is) (shown _ moved ∙ simp (maps, seen-no_call c.args.cell c.requires.no_call))

-- no call mark comes, and none goes; a comma mark stands before the place that is kept then
pub invariant_of-self : goal.invariant_of-self
invariant_of-self c =
    let h = c.self.invariant in
    let size = sizes h c.self.view_is in
    let neutral = (parts_of c.self.inside).neutral in
    let moved = parts-write_neutral h c.args.i c.args.cell (omega arith) in
    let was : is_call (get_or neutral c.args.i (Byte 0)) ≡ false = sym (call-seen neutral c.args.i) ∙ (rw (← c.self.view_is) at c.requires.for_no_call) in
    let same = marks-write neutral c.args.i c.args.cell c.requires.no_call was in
    let within : c.args.i < length neutral = omega (arith, c.requires.within, size.neutral, size.cells) in
    let no_comma : NoCommaFrom c.if-holds_comma.self (set neutral c.args.i c.args.cell) =
    elim c.if-holds_comma.branch [
      | then-holds_comma w ↦
          let most = w.max-self-inside.ensures in
          rw w.self-is (no_comma-set_before neutral c.self.inside.no_comma_from h.no_comma c.args.i w.max-self-inside.result c.args.cell (omega (arith, most)) (omega (arith, most)))
      | else-holds_comma w ↦
          rw w.self-is (no_comma-set neutral c.self.inside.no_comma_from h.no_comma c.args.i c.args.cell within (sym c.holds_comma.ensures ∙ w.if-holds_comma.false))
    ] in
    tagged _ h moved refl (omega arith) (omega arith) (marks-calls neutral _ same _ h.calls) (marks-linked neutral _ same h.linked) no_comma
