-- What a search over the cells of a body says of its items.
use Rattle.trac_store.proofs.Imports.{◌≡◌, ℕ, ◌<◌, ◌≤◌, ◌&&◌, ◌==◌, Bool, true, List, [], ◌∷◌, length, drop, map, get_or, Option, Some, None, MatchOption, refl, sym, ap, ◌∙◌, arith, get_or-map, length-map, drop-map, and_parts, Item, Text, is_character, begins, Cell}
use Rattle.trac_store.proofs.Imports.{Byte, Comma, seen, is_byte_cell, byte_cell_at, flat_item, is_gap, gap_at, character_at, text_at, NonePasses, IsFirst, IsLast, is_gap_cell, gap_cell_at, text_cells_at, begins_cells, tested-seen}
use Rattle.trac_language.specs.declared.item.Item.TheVariants as item
use Rattle.trac_store.proofs.Gaps.{begins-map_seen}

-- another test that agrees gives the same places
pub first-agrees : (r : Option ℕ) (p q : ℕ → Bool) (from n to : ℕ) → n ≡ to → ((k : ℕ) → k < to → p k ≡ q k) → MatchOption r (NonePasses p from n) (λ i. IsFirst p from n i) → MatchOption r (NonePasses q from to) (λ i. IsFirst q from to i)
first-agrees None p q from n to len same h = λ k above below. sym (same k below) ∙ h k above (omega arith)
first-agrees (Some i) p q from n to len same h = record {
  above = h.above;
  within = omega (arith, h.within);
  passes = sym (same i (omega (arith, h.within))) ∙ h.passes;
  before = λ k above below. sym (same k (omega (arith, h.within))) ∙ h.before k above below;
}

pub last-agrees : (r : Option ℕ) (p q : ℕ → Bool) (to : ℕ) → ((k : ℕ) → k < to → p k ≡ q k) → MatchOption r (NonePasses p 0 to) (λ i. IsLast p to i) → MatchOption r (NonePasses q 0 to) (λ i. IsLast q to i)
last-agrees None p q to same h = λ k above below. sym (same k below) ∙ h k above below
last-agrees (Some i) p q to same h = record {
  within = h.within;
  passes = sym (same i h.within) ∙ h.passes;
  after = λ k above below. sym (same k below) ∙ h.after k above below;
}

gap-seen : (cell : Cell) → is_gap_cell (seen cell) ≡ is_gap_cell cell
gap-seen (Byte b) = refl
gap-seen cell = refl

gap-flat : (i : Item) → is_gap_cell (flat_item i) ≡ is_gap i
gap-flat (item.Byte b) = refl
gap-flat (item.Gap k) = refl

byte-flat : (i : Item) → is_byte_cell (flat_item i) ≡ is_character i
byte-flat (item.Byte b) = refl
byte-flat (item.Gap k) = refl

-- the cells of items begin with a text as the items do
pub begins-flat : (text : Text) (items : List Item) → begins_cells text (map flat_item items) ≡ begins items text
begins-flat [] items = refl
begins-flat (c ∷ text) [] = refl
begins-flat (c ∷ text) (item.Byte b ∷ items) = ap (λ r. (b == c) && r) (begins-flat text items)
begins-flat (c ∷ text) (item.Gap k ∷ items) = refl

module _ (cells : List Cell) (items : List Item) (same : map seen cells ≡ map flat_item items) where
  pub body_len : length cells ≡ length items
  body_len = sym (length-map cells seen) ∙ ap length same ∙ length-map items flat_item

  cell_at : (k : ℕ) → k < length items → seen (get_or cells k Comma) ≡ flat_item (get_or items k (item.Byte 0))
  cell_at k below =
      let inside : k < length cells = omega (arith, body_len) in
      sym (get_or-map seen cells k Comma Comma inside) ∙ ap (λ l. get_or l k Comma) same ∙ get_or-map flat_item items k (item.Byte 0) Comma below

  pub gaps-agree : (k : ℕ) → k < length items → gap_cell_at cells k ≡ gap_at items k
  gaps-agree k below = sym (gap-seen (get_or cells k Comma)) ∙ ap is_gap_cell (cell_at k below) ∙ gap-flat (get_or items k (item.Byte 0))

  pub characters-agree : (k : ℕ) → k < length items → byte_cell_at cells k ≡ character_at items k
  characters-agree k below = sym (tested-seen (get_or cells k Comma)) ∙ ap is_byte_cell (cell_at k below) ∙ byte-flat (get_or items k (item.Byte 0))

-- a text stands among the cells of items where it stands among the items
pub texts-agree : (cells : List Cell) (items : List Item) (text : Text) → cells ≡ map flat_item items → (k : ℕ) → text_cells_at text cells k ≡ text_at text items k
texts-agree cells items text same k =
    ap (λ l. begins_cells text (drop k l)) same ∙ ap (begins_cells text) (drop-map flat_item k items) ∙ begins-flat text (drop k items)

-- items that begin with a text are as many
pub begins-within : (items : List Item) (text : Text) → begins items text ≡ true → length text ≤ length items
begins-within items [] e = omega arith
begins-within [] (c ∷ text) e = cc
begins-within (item.Byte b ∷ items) (c ∷ text) e = let rest = begins-within items text (and_parts (b == c) (begins items text) e).1 in omega arith
begins-within (item.Gap k ∷ items) (c ∷ text) e = cc

-- what a search of raw cells says of the cells that are seen
pub first-seen : (r : Option ℕ) (raw cells : List Cell) (text bytes : List ℕ) (from : ℕ) → map seen raw ≡ cells → text ≡ bytes → MatchOption r (NonePasses (text_cells_at text raw) from (length raw)) (λ i. IsFirst (text_cells_at text raw) from (length raw) i) → MatchOption r (NonePasses (text_cells_at bytes cells) from (length cells)) (λ i. IsFirst (text_cells_at bytes cells) from (length cells) i)
first-seen r raw cells text bytes from shown same found =
    first-agrees r (text_cells_at text raw) (text_cells_at bytes cells) from (length raw) (length cells) (sym (length-map raw seen) ∙ ap length shown) (λ k below. ap (λ t. begins_cells t (drop k raw)) same ∙ sym (begins-map_seen bytes (drop k raw)) ∙ ap (begins_cells bytes) (sym (drop-map seen k raw) ∙ ap (drop k) shown)) found
