use Rattle.trac_store.proofs.Imports.{untagged, ◌<◌, ◌≡◌, length, get_or, get_or-map, ap, subst, ◌∙◌, sym, arith, character_of, is_byte, Byte, byte_at, IsLongestBorder}
use Rattle.trac_store.specs.Borders.{tagged_text}
use Rattle.trac_store.proofs.TextBorders.{up-to-next}
use Rattle.trac_store.proofs.borders.next_border.Goals as goal

pub loop-cell-preserved : goal.loop-cell-preserved
loop-cell-preserved c =
    let cells = c.args.text.now in
    let border = c.loop-cell.border in
    let inside : border < length cells = omega (arith, c.loop-cell.invariant.border_is.within, c.requires.within) in
    let byte : byte_at (tagged_text cells) border ≡ character_of (untagged (get_or cells border (Byte 0))) = get_or-map (λ cell. character_of (untagged cell)) cells border (Byte 0) 0 inside in
    let differ = ap (λ b. is_byte b c.args.cell) (byte ∙ ap character_of (sym c.untagged_cell.ensures)) ∙ sym c.is_same_byte.ensures ∙ c.loop-cell-test.true in
    let long = c.requires.borders border (omega (arith, c.if-border-eq0.false)) c.loop-cell.invariant.border_is.within in
    up-to-next (tagged_text cells) c.args.before border c.args.cell c.loop-cell.invariant c.tag_or_zero-border.result differ (subst (IsLongestBorder (tagged_text cells) border) (sym c.tag_or_zero-border.ensures) long)
