-- The item at the pointer of a form, copied to the end of neutral.
use Rattle.std.proofs.Common.{suc}
use Rattle.trac_forms.proofs.Imports.{◌≡◌, ℕ, ◌+◌, ◌-◌, ◌<◌, ◌≤◌, ◌++◌, Bool, true, false, List, [], ◌∷◌, length, take, drop, map, get_or, slice_range, refl, sym, ap, ◌∙◌, arith, drop_more, length-drop, length-map, OnTrue, length-between, rules, Item, is_character, text_of, Cell, Byte, Comma, IsByte, Lists, flat_text, item_of, forms_in, flat_forms, shown, called_part, item_at, form_at}
use Rattle.trac_language.specs.declared.item.Item.TheVariants as item
use Rattle.trac_space.specs.Lists as lists
use Rattle.trac_forms.specs.Loading.{HasNext, next_text}
use Rattle.trac_forms.proofs.Strings.{used-stored}

character-of : (cell : Cell) → IsByte cell → is_character (item_of cell) ≡ true
character-of (Byte b) byte = refl
character-of cell byte = absurd byte

text-of : (cell : Cell) → IsByte cell → cell ∷ [] ≡ flat_text (text_of (item_of cell ∷ []))
text-of (Byte b) byte = refl
text-of cell byte = absurd byte

character-byte : (cell : Cell) → is_character (item_of cell) ≡ true → IsByte cell
character-byte (Byte b) is = search rules
character-byte cell is = absurd cc

-- the items from a place of a body on stand in a part of the store
module _ (store : List Cell) (from to : ℕ) (body : List Item) (p : ℕ) (order : from ≤ to) (within : to ≤ length store) (are : map item_of (slice_range store from to) ≡ drop p body) where
  as-long : to - from ≡ length body - p
  as-long = omega (arith, ap length are, length-map (slice_range store from to) item_of, length-between store from to within, length-drop p body)

  -- one stands there
  module _ (less : from < to) where
    first : drop p body ≡ item_of (get_or store from Comma) ∷ map item_of (slice_range store (from + 1) to)
    first =
        let split : to - from ≡ suc (to - (from + 1)) = omega (arith, less) in
        let cells : slice_range store from to ≡ get_or store from Comma ∷ slice_range store (from + 1) to = ap (λ n. take n (drop from store)) split ∙ ap (take (suc (to - (from + 1)))) (drop_more store from Comma (omega (arith, less, within))) in
        sym are ∙ ap (map item_of) cells

    inside : p < length body
    inside = omega (arith, as-long, less)

    here : item_at body p ≡ item_of (get_or store from Comma)
    here = ap (λ l. get_or l 0 (item.Byte 0)) (sym (drop_more body p (item.Byte 0) inside) ∙ first)

    next-cell : IsByte (get_or store from Comma) → get_or store from Comma ∷ [] ≡ flat_text (text_of (slice_range body p (p + 1)))
    next-cell byte =
        let one : p + 1 - p ≡ 1 = omega arith in
        let part : slice_range body p (p + 1) ≡ item_of (get_or store from Comma) ∷ [] = ap (λ n. take n (drop p body)) one ∙ ap (take 1) first in
        text-of (get_or store from Comma) byte ∙ ap (λ l. flat_text (text_of l)) (sym part)

module _ (s : Lists) (k from to : ℕ) (whole : flat_forms (forms_in s.store) ≡ s.store) (order : from ≤ to) (within : to ≤ length s.store) (are : map item_of (slice_range s.store from to) ≡ called_part (forms_in s.store) k) where
  abbrev body : List Item
  body = (form_at (forms_in s.store) k).body

  abbrev p : ℕ
  p = (form_at (forms_in s.store) k).pointer

  -- the next item is a character that fits
  pub has-next : from < to → IsByte (get_or s.store from Comma) → lists.used s < s.room → HasNext (shown s) k
  has-next less byte fits =
      let long : length (next_text (shown s) k) ≡ 1 = sym (length-map (next_text (shown s) k) Byte) ∙ sym (ap length (next-cell s.store from to body p order within are less byte)) in
      record {
        inside = inside s.store from to body p order within are less;
        character = ap is_character (here s.store from to body p order within are less) ∙ character-of (get_or s.store from Comma) byte;
        fits = omega (arith, fits, long, used-stored s whole);
      }

  -- there is one if that is so
  pub next-less : HasNext (shown s) k → from < to
  next-less has = omega (arith, as-long s.store from to body p order within are, has.inside)

  pub next-byte : HasNext (shown s) k → IsByte (get_or s.store from Comma)
  next-byte has = character-byte (get_or s.store from Comma) (ap is_character (sym (here s.store from to body p order within are (next-less has))) ∙ has.character)

  pub next-fits : HasNext (shown s) k → lists.used s < s.room
  next-fits has =
      let long : length (next_text (shown s) k) ≡ 1 = sym (length-map (next_text (shown s) k) Byte) ∙ sym (ap length (next-cell s.store from to body p order within are (next-less has) (next-byte has))) in
      omega (arith, has.fits, long, used-stored s whole)

  -- what its copy leaves
  pub next-put : (index_area : List Cell) (done : Bool) (t : Lists) → (done ≡ true → IsByte (get_or s.store from Comma)) → from < to → OnTrue done (t ≡ record s { neutral = s.neutral ++ get_or s.store from Comma ∷ []; index_area = index_area }) → OnTrue done (t ≡ record s { neutral = s.neutral ++ flat_text (next_text (shown s) k); index_area = index_area })
  next-put index_area false t byte less put = tt
  next-put index_area true t byte less put = put ∙ ap (λ cells. record s { neutral = s.neutral ++ cells; index_area = index_area }) (next-cell s.store from to body p order within are less (byte refl))
