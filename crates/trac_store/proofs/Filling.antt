-- The text of a form whose gaps are filled, part by part.
use Rattle.trac_store.proofs.Imports.{◌≡◌, ℕ, ◌+◌, ◌-◌, ◌≤◌, List, [], ◌∷◌, length, drop, map, get_or, slice_range, All, refl, sym, ap, ◌∙◌, arith, subst, ⊎_elim, cases_lt, drop-map}
use Rattle.trac_store.proofs.Imports.{length-map, get_or_past, All-head, All-tail, All-nil, All-cons, All-get_or, length-between, Item, Text, fill, IsStore, Cell, Byte, Lists}
use Rattle.trac_store.proofs.Imports.{flat_text, text_of_cells, character_of, IsByte, flat_item, flat_forms, IsTextPart, part_text, AreTextParts, part_texts, form_at, name_at, body_at, pointer_at}
use Rattle.trac_store.proofs.Imports.{item_of, forms_in}
use Rattle.trac_store.specs.Stored.{IsLocated}
use Rattle.trac_store.specs.declared.form_heads.Heads.{Heads}
use Rattle.trac_store.specs.declared.located.Located.{Located}
use Rattle.std.proofs.Math.ListN.{get_or-map as get_or-map-same}
use Rattle.trac_store.proofs.Places.{stands}
use Rattle.trac_store.proofs.DistinctForms.{pointer-within}
use Rattle.trac_store.proofs.FlatLemmas.{drop-part, Byte-character_of, item_of-cell}

-- the text of cells that stand for items
abbrev pub filled : List Text → List Cell → Text
filled given cells = fill given (map item_of cells)

-- characters alone are their text, which stands as they do and is as long
filled-characters : (given : List Text) (cells : List Cell) → All IsByte cells → filled given cells ≡ text_of_cells cells
filled-characters given [] h = refl
filled-characters given (Byte c ∷ cells) h = ap (λ text. c ∷ text) (filled-characters given cells (All-tail IsByte (Byte c) cells h))
filled-characters given (cell ∷ cells) h = absurd (All-head IsByte cell cells h)

pub characters-flat : (given : List Text) (cells : List Cell) → All IsByte cells → flat_text (filled given cells) ≡ cells
characters-flat given cells h = ap flat_text (filled-characters given cells h) ∙ Byte-character_of cells h

pub characters-length : (given : List Text) (store : List Cell) (at end : ℕ) → end ≤ length store → All IsByte (slice_range store at end) → length (filled given (slice_range store at end)) ≡ end - at
characters-length given store at end within h =
    ap length (filled-characters given (slice_range store at end) h) ∙ length-map (slice_range store at end) character_of ∙ length-between store at end within

-- the items of a body from a place on, as they stand in the store
pub body-items : (store : List Cell) (body : List Item) (at from : ℕ) → from ≤ length body → slice_range store at (at + length body) ≡ map flat_item body → map item_of (slice_range store (at + from) (at + length body)) ≡ drop from body
body-items store body at from within part =
    ap (map item_of) (sym (drop-part store at from (at + length body) (omega (arith, within))) ∙ ap (drop from) part ∙ drop-map flat_item from body) ∙ item_of-cell (drop from body)

-- the part of a number, and its text
module _ (neutral : List Cell) (parts : List (ℕ × ℕ)) (are : AreTextParts neutral parts) where
  null-part : IsTextPart neutral 0 0
  null-part = record { order = omega arith; within = omega arith; bytes = All-nil IsByte }

  pub part-there : (k : ℕ) → IsTextPart neutral (get_or ((0, 0) ∷ parts) k (0, 0)).0 (get_or ((0, 0) ∷ parts) k (0, 0)).1
  part-there k =
      let Part : (ℕ × ℕ) → Type 0 = λ part. IsTextPart neutral part.0 part.1 in
      ⊎_elim
      (λ less. All-get_or Part ((0, 0) ∷ parts) k (0, 0) less (All-cons Part (0, 0) parts null-part are))
      (λ past. subst Part (sym (get_or_past ((0, 0) ∷ parts) k (0, 0) past)) null-part)
      (cases_lt k (length ((0, 0) ∷ parts)))

  pub part-text : (k : ℕ) → part_text neutral (get_or ((0, 0) ∷ parts) k (0, 0)).0 (get_or ((0, 0) ∷ parts) k (0, 0)).1 ≡ get_or ([] ∷ part_texts neutral parts) k []
  part-text k = sym (get_or-map-same (λ part. part_text neutral part.0 part.1) ((0, 0) ∷ parts) k (0, 0))

-- the items of a form's body from its pointer on stand in the store, behind the form's heads and its name
pub record AreItems (s : Lists) (form : Located) (heads : Heads) : Type 0 where
  pub behind : form.start + 3 + heads.name + heads.body ≤ length s.store
  pub order : heads.pointer ≤ heads.body
  pub are : map item_of (slice_range s.store (form.start + 3 + heads.name + heads.pointer) (form.start + 3 + heads.name + heads.body)) ≡ drop (pointer_at (forms_in s.store) form.number) (body_at (forms_in s.store) form.number)

pub items : (s : Lists) (form : Located) (heads : Heads) → flat_forms (forms_in s.store) ≡ s.store → IsStore (forms_in s.store) → IsLocated (forms_in s.store) form.number form.start → heads.name ≡ length (name_at (forms_in s.store) form.number) → heads.body ≡ length (body_at (forms_in s.store) form.number) → heads.pointer ≡ pointer_at (forms_in s.store) form.number → AreItems s form heads
items s form heads whole is_store located name_is body_is pointer_is =
    let place = form.start in
    let name = heads.name in
    let body = heads.body in
    let from = heads.pointer in
    let forms = forms_in s.store in
    let named = form_at forms form.number in
    let f = stands forms s.store form.number place whole located.within located.start_is in
    let inside = pointer-within forms form.number is_store in
    let name_end : place + 3 + name ≡ place + 3 + length named.name = omega (arith, name_is) in
    let end : place + 3 + name + body ≡ place + 3 + length named.name + length named.body = omega (arith, name_is, body_is) in
    let pointer : from ≡ named.pointer = pointer_is in
    let here : named.pointer ≤ length named.body = omega (arith, inside) in
    record {
      behind = omega (arith, end, f.end);
      order = omega (arith, body_is, pointer, here);
      are = ap (λ i. map item_of (slice_range s.store (i + from) (place + 3 + name + body))) name_end
          ∙ ap (λ i. map item_of (slice_range s.store (place + 3 + length named.name + from) i)) end
          ∙ ap (λ i. map item_of (slice_range s.store (place + 3 + length named.name + i) (place + 3 + length named.name + length named.body))) pointer
          ∙ body-items s.store named.body (place + 3 + length named.name) named.pointer here f.body_part;
    }
