-- The items of a body and their cells.
use Rattle.trac_store.proofs.Imports.{◌≡◌, ℕ, ◌+◌, ◌<◌, ◌≤◌, List, length, map, slice_range, get_or, refl, sym, ap, ◌∙◌, arith, get_or-map, length-map, length-between, get_or-between, slice_get-get_or, Item, Cell, Comma, flat_item, item_at, item_of, item_of_cell, stored_item}
use Rattle.trac_language.specs.declared.item.Item.TheVariants as item

item_of-flat : (i : Item) → item_of (flat_item i) ≡ i
item_of-flat (item.Byte b) = refl
item_of-flat (item.Gap k) = refl

-- the cell at a place of a body's cells
pub item-stored : (store : List Cell) (body : List Item) (from to i : ℕ) → i < length body → to ≤ length store → slice_range store from to ≡ map flat_item body → stored_item store (from + i) ≡ item_at body i
item-stored store body from to i within room part =
    let size = length-between store from to room in
    let long = length-map body flat_item in
    let cell : get_or store (from + i) Comma ≡ flat_item (get_or body i (item.Byte 0)) = sym (get_or-between store from to i Comma (omega (arith, ap length part))) ∙ ap (λ cells. get_or cells i Comma) part ∙ get_or-map flat_item body i (item.Byte 0) Comma within in
    ap item_of_cell (slice_get-get_or store (from + i) Comma (omega (arith, ap length part))) ∙ ap item_of cell ∙ item_of-flat (get_or body i (item.Byte 0))
