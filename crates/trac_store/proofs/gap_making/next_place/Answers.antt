use Rattle.trac_store.proofs.Imports.{◌≡◌, ◌+◌, ◌-◌, None, length, drop, slice_range, Some, sym, ap, subst, ◌∙◌, arith, length-map, length-between, length-drop, seen, character_of, untagged, tagged_text, HaveBorders, text_cells_at, IsFirst}
use Rattle.trac_store.proofs.Gaps.{begins-length}
use Rattle.trac_store.proofs.TaggedBorders.{borders-seen, tagged-seen}
use Rattle.trac_store.proofs.Searches.{first-seen}
use Rattle.trac_store.proofs.gap_making.next_place.Goals as goal

-- the cells that are searched, and the text, as contracts see them
pub first_place-requires-clause-borders : goal.first_place-requires-clause-borders
first_place-requires-clause-borders c =
    let text = c.neutral_part.result.now in
    let part = slice_range c.args.space.now.neutral c.args.text.from c.args.text.to in
    let long : length part ≡ length text = sym (ap length c.neutral_part.ensures) ∙ length-map text seen in
    borders-seen text part (length text) c.neutral_part.ensures (subst (HaveBorders part) long c.requires.text.borders)

pub returns-in-None : goal.returns-in-None
returns-in-None c =
    first-seen None c.store_part-cells.result.now _ _ _ 0 c.store_part-cells.ensures (sym (tagged-seen c.neutral_part.result.now) ∙ ap tagged_text c.neutral_part.ensures) c.in-None.ensures

pub returns-in-Some : goal.returns-in-Some
returns-in-Some c =
    let part = slice_range c.args.space.now.neutral c.args.text.from c.args.text.to in
    let cells = slice_range c.args.space.now.store c.args.body.from c.args.body.to in
    let place = c.in-Some.place in
    let found : IsFirst (text_cells_at (tagged_text part) cells) 0 (length cells) place = first-seen (Some place) c.store_part-cells.result.now _ _ _ 0 c.store_part-cells.ensures (sym (tagged-seen c.neutral_part.result.now) ∙ ap tagged_text c.neutral_part.ensures) c.in-Some.ensures in
    let few = begins-length (tagged_text part) (drop place cells) found.passes in
    let size : length cells ≡ c.args.body.to - c.args.body.from = length-between c.args.space.now.store c.args.body.from c.args.body.to c.requires.body.within in
    let long : length (tagged_text part) ≡ c.args.text.to - c.args.text.from = length-map part (λ cell. character_of (untagged cell)) ∙ length-between c.args.space.now.neutral c.args.text.from c.args.text.to c.requires.text.within in
    let e : c.args.body.from + place - c.args.body.from ≡ place = omega arith in (
      omega arith,
      omega (arith, few, length-drop place cells, size, long, found.within),
      subst (IsFirst (text_cells_at (tagged_text part) cells) 0 (length cells)) (sym e) found,
    )
