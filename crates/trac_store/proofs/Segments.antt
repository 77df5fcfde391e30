-- The cells of a segmented body.
use Rattle.trac_store.proofs.Imports.{◌≡◌, ℕ, zero, suc, ◌+◌, ◌-◌, ◌<◌, Bool, true, false, List, [], ◌∷◌, ◌++◌, length, take, drop, map, set, refl, sym, ap, ◌∙◌, arith, if◌then◌else◌, append_assoc, length-append, length-map, take_at, Item, Text, Form, begins, segment_after}
use Rattle.trac_store.proofs.Imports.{segment, Cell, Byte, Gap, Head, Lists, flat_text, flat_item, flat_form, flat_forms, form_at, segment_cells, segmented_cells, start_of, places, reads, rules, same_lists}
use Rattle.trac_store.proofs.Searches.{begins-flat}
use Rattle.trac_store.proofs.Places.{Stands, flat-set}

choose : (b : Bool) (x y : List Item) (v w : List Cell) → map flat_item x ≡ v → map flat_item y ≡ w → map flat_item (elim b [ true ↦ x | false ↦ y ]) ≡ (if b then v else w)
choose true x y v w p q = p
choose false x y v w p q = q

flat-segment_after : (skip : ℕ) (text : Text) (k : ℕ) (items : List Item) → map flat_item (segment_after skip text k items) ≡ segment_cells text k skip (map flat_item items)
unfolding segment_after
flat-segment_after zero text k [] = refl
flat-segment_after (suc skip) text k [] = refl
flat-segment_after (suc skip) text k (i ∷ items) = flat-segment_after skip text k items
flat-segment_after zero text k (i ∷ items) =
    let test = begins-flat text (i ∷ items) in
    let found = ap (λ cells. Gap k ∷ cells) (flat-segment_after (length text - 1) text k items) in
    let other = ap (λ cells. flat_item i ∷ cells) (flat-segment_after zero text k items) in
    rw test (choose (begins (i ∷ items) text) _ _ _ _ found other)

-- the cells of the segmented items are the segmented cells
pub flat-segment : (text : Text) (k : ℕ) (items : List Item) → map flat_item (segment text k items) ≡ segmented_cells text k (map flat_item items)
flat-segment [] k items = refl
flat-segment (c ∷ text) k items = flat-segment_after zero (c ∷ text) k items

-- what a write to a store that was made another leaves
pub written : (s t u : Lists) (store : List Cell) (i : ℕ) (cell : Cell) → t ≡ record s { store = store } → u ≡ record t { store = set t.store i cell } → u ≡ record s { store = set store i cell }
written s t u store i cell first second = second ∙ ap (λ (l : Lists). record l { store = set l.store i cell }) first

-- the two cells behind the first of some are written
set-two : (front after : List Cell) (at : ℕ) (first a b x y : Cell) → length front ≡ at → set (set (front ++ (first ∷ a ∷ b ∷ after)) (at + 1) x) (at + 2) y ≡ front ++ (first ∷ x ∷ y ∷ after)
set-two front after at first a b x y long = same_lists _ _ (search (rules, places)) (λ k d less. grind (arith, reads))

-- where form k begins, and its body, which stands from `from` up to `to`
pub record BodyPlace (forms : List Form) (k : ℕ) : Type 0 where
  pub start : ℕ
  pub from : ℕ
  pub to : ℕ
  pub within : k < length forms
  pub start_is : start ≡ start_of forms k
  pub from_is : from ≡ start + 3 + length (form_at forms k).name
  pub to_is : to ≡ from + length (form_at forms k).body

-- the store with other items in the body of a form, and pointer 0
pub regapped : (forms : List Form) (store : List Cell) (k : ℕ) (place : BodyPlace forms k) (items : List Item) → Stands forms store k place.start → set (set (take place.from store ++ map flat_item items ++ drop place.to store) (place.start + 1) (Head (length items))) (place.start + 2) (Head 0) ≡ flat_forms (set forms k (record (form_at forms k) { body = items; pointer = 0 }))
regapped forms store k place items f =
    let at = place.start in
    let from = place.from in
    let to = place.to in
    let from_is = place.from_is in
    let to_is = place.to_is in
    let form = form_at forms k in
    let front = flat_forms (take k forms) in
    let name = flat_text form.name in
    let body = map flat_item form.body in
    let gaps = map flat_item items in
    let rest = flat_forms (drop (k + 1) forms) in
    let heads = Head (length form.name) ∷ Head (length form.body) ∷ Head form.pointer ∷ [] in
    let split : store ≡ (front ++ (heads ++ name)) ++ (body ++ rest) = f.split ∙ ap (λ cells. front ++ (heads ++ cells)) (append_assoc name body rest) ∙ sym (append_assoc front (heads ++ name) (body ++ rest)) in
    let front_len : length (front ++ (heads ++ name)) ≡ from = omega (arith, length-append front (heads ++ name), length-map form.name Byte, place.start_is, from_is) in
    let before : take from store ≡ front ++ (heads ++ name) = ap (take from) split ∙ take_at (front ++ (heads ++ name)) (body ++ rest) from front_len in
    let end : to ≡ at + (3 + length form.name + length form.body) = omega (arith, from_is, to_is) in
    let behind : drop to store ≡ rest = ap (λ i. drop i store) end ∙ f.behind in
    let after = name ++ (gaps ++ rest) in
    let joined : take from store ++ gaps ++ drop to store ≡ front ++ (Head (length form.name) ∷ Head (length form.body) ∷ Head form.pointer ∷ after) = rw (before, behind) (append_assoc (front ++ (heads ++ name)) gaps rest ∙ append_assoc front (heads ++ name) (gaps ++ rest)) in
    let whole : front ++ (Head (length form.name) ∷ Head (length items) ∷ Head 0 ∷ after) ≡ front ++ (flat_form (record form { body = items; pointer = 0 }) ++ rest) = ap (λ cells. front ++ (Head (length form.name) ∷ Head (length items) ∷ Head 0 ∷ cells)) (sym (append_assoc name gaps rest)) in
    ap (λ cells. set (set cells (at + 1) (Head (length items))) (at + 2) (Head 0)) joined
    ∙ set-two front after at _ _ _ (Head (length items)) (Head 0) (sym place.start_is)
    ∙ whole
    ∙ sym (flat-set forms k (record form { body = items; pointer = 0 }) place.within)
