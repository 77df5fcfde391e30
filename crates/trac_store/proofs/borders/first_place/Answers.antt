use Rattle.trac_store.proofs.Imports.{get_or_default, untagged, subst, arith, length-map, Byte, Comma, character_of, IsNextBorder}
use Rattle.trac_store.specs.Borders.{tagged_text}
use Rattle.trac_store.proofs.TextBorders.{searched-next, searched-found, searched-all, next-within}
use Rattle.trac_store.proofs.borders.first_place.Goals as goal

pub returns-then-before-text : goal.returns-then-before-text
returns-then-before-text c =
    let text = tagged_text c.args.text.now in
    let size = length-map c.args.text.now (λ cell. character_of (untagged cell)) in
    let is = subst (λ cell. IsNextBorder text c.loop-i.before cell c.next_border-before.result) (get_or_default c.args.cells.now c.loop-i.i (Byte 0) Comma c.loop-i-test.true) c.next_border-before.ensures in
    searched-found text c.args.cells.now c.args.from c.loop-i.i c.loop-i.before c.next_border-before.result (omega (arith, c.loop-i.invariant.few, size)) c.loop-i.invariant.done is (omega (arith, c.if-before-text.true, size)) c.loop-i-test.true

pub loop-i-preserved : goal.loop-i-preserved
loop-i-preserved c =
    let text = tagged_text c.args.text.now in
    let size = length-map c.args.text.now (λ cell. character_of (untagged cell)) in
    let within = next-within text c.loop-i.before _ c.next_border-before.result c.next_border-before.ensures in
    let is = subst (λ cell. IsNextBorder text c.loop-i.before cell c.next_border-before.result) (get_or_default c.args.cells.now c.loop-i.i (Byte 0) Comma c.loop-i-test.true) c.next_border-before.ensures in
    record {
      few = omega (arith, c.loop-i.invariant.few, within, c.if-before-text.false);
      done = searched-next text c.args.cells.now c.args.from c.loop-i.i c.loop-i.before c.next_border-before.result (omega (arith, c.loop-i.invariant.few, size)) c.loop-i.invariant.done is;
    }

pub returns : goal.returns
returns c =
    let size = length-map c.args.text.now (λ cell. character_of (untagged cell)) in
    searched-all (tagged_text c.args.text.now) c.args.cells.now c.args.from c.loop-i.i c.loop-i.before c.loop-i.invariant.done (omega (arith, c.loop-i-test.false)) (omega (arith, c.loop-i.invariant.few, size))
