-- What `define` and `segment` leave in a store, from what they put there.
use Rattle.trac_forms.proofs.Imports.{◌≡◌, ℕ, ◌+◌, ◌-◌, ◌≤◌, List, ◌∷◌, [], ◌++◌, length, take, drop, map, set, slice_range, refl, sym, ap, subst, ◌∙◌, arith, length_push, length-append, length-map, length-set, length-take-le, length-drop, take_at, length-between, sum_by_push, items_of}
use Rattle.trac_forms.proofs.Imports.{segment, form_cells, Text, Form, Cell, Head, character_of, Lists, flat_item, flat_form, flat_forms, form_at, name_at, part_text, IsTextPart, segmented_cells, IsIndexed, IsIndexBut, started, forms_in, start_of}
use Rattle.trac_forms.proofs.Imports.{NoneNamed, IsStore-push, flat_map_more, IsStored, forms_in-flat, length-flat, index-kept, IsKept, flat_items_of, Byte-character_of, stands, start_of-set, IsStore-set, cells-set, index-replaced, flat-segment, regapped, length-flat_form}
use Rattle.trac_forms.proofs.FormTables.{index-set}
use Rattle.trac_forms.specs.Stored.{IsIndexedUpTo}
use Rattle.trac_language.specs.declared.item.Item.TheVariants as item
use Rattle.trac_space.specs.Lists as lists
use Rattle.trac_forms.proofs.Strings.{CanStand, used-stored, restored}
use Rattle.trac_language.specs.declared.item.Item.{Item}
use Rattle.trac_space.specs.declared.part.Part.{Part}
use Rattle.trac_store.proofs.Places.{Stands}
use Rattle.trac_store.proofs.Segments.{BodyPlace}

-- a new form behind the others
pub added : (s u : Lists) (form : Form) → flat_forms (forms_in s.store) ≡ s.store → u ≡ record s { store = s.store ++ flat_form form; index_area = u.index_area } → u ≡ record s { store = flat_forms (forms_in s.store ++ form ∷ []); index_area = u.index_area }
added s u form whole put =
    put ∙ ap (λ cells. record s { store = cells ++ flat_form form; index_area = u.index_area }) (sym whole)
    ∙ ap (λ cells. record s { store = cells; index_area = u.index_area }) (flat_map_more flat_form [] (forms_in s.store) form)

-- the forms are then those that there were, and it
pub added-forms : (s u : Lists) (form : Form) → flat_forms (forms_in s.store) ≡ s.store → u ≡ record s { store = s.store ++ flat_form form; index_area = u.index_area } → forms_in u.store ≡ forms_in s.store ++ form ∷ []
added-forms s u form whole put =
    ap (λ (w : Lists). forms_in w.store) (added s u form whole put) ∙ forms_in-flat (forms_in s.store ++ form ∷ [])

-- the form can be added to those of a space
pub record IsNew (s : Lists) (form : Form) : Type 0 where
  pub pointer : form.pointer ≤ length form.body
  pub fits : lists.used s + form_cells form ≤ s.room
  pub unnamed : NoneNamed form.name (forms_in s.store)

-- a form stands behind the others, where it begins at `begins`
module _ {s : Lists} {count last start : ℕ} (h : IsStored s count last start) (form : Form) (u : Lists) (put : u ≡ record s { store = s.store ++ flat_form form; index_area = u.index_area }) (begins : ℕ) (begin : begins ≡ length s.store) where
  -- before it is in the index, that is one of the forms before it
  pub added-indexed : lists.used s + form_cells form ≤ s.room → IsKept s.index_area u.index_area → IsIndexedUpTo u count begins
  added-indexed need kept =
      let forms = forms_in s.store in
      let all = forms ++ form ∷ [] in
      let is = added s u form h.forms.whole put in
      let read = added-forms s u form h.forms.whole put in
      let there = ap (λ (w : Lists). length w.store) is in
      let more = sum_by_push form_cells forms form in
      let front = take_at forms (form ∷ []) count (sym h.count_is) in
      record {
        forms = record {
          whole = ap flat_forms read ∙ sym (ap (λ (w : Lists). w.store) is);
          bounded = omega (arith, there, length-flat all, length-flat forms, more, used-stored s h.forms.whole, h.sound.bounded, need);
        };
        place = record {
          within = omega (arith, ap length read, length_push forms form, h.count_is);
          start_is = begin ∙ ap length (sym h.forms.whole) ∙ ap (λ fs. length (flat_forms fs)) (sym front) ∙ ap (λ fs. start_of fs count) (sym read);
        };
        index = subst (IsIndexed u.index_area) (sym (ap (take count) read ∙ front)) (index-kept s.index_area u.index_area forms kept h.index);
      }

  -- with the index that the forms have then
  pub added-stored : (v : Lists) → IsNew s form → IsIndexed v.index_area (forms_in u.store) → v ≡ record u { index_area = v.index_area } → IsStored v (count + 1) count begins
  added-stored v new index kept =
      let forms = forms_in s.store in
      let all = forms ++ form ∷ [] in
      let is = added s u form h.forms.whole put in
      let more = sum_by_push form_cells forms form in
      let long = ap length h.forms.whole in
      let need = new.fits in
      let all_count = length_push forms form in
      let first = take_at forms (form ∷ []) (length forms) refl in
      let place : begins ≡ start_of all (length forms) = begin ∙ sym long ∙ ap (λ fs. length (flat_forms fs)) (sym first) in
      let counted = h.count_is in
      let can : CanStand s v.index_area all = record {
        index = subst (IsIndexed v.index_area) (added-forms s u form h.forms.whole put) index;
        distinct = IsStore-push forms form h.sound.forms new.unnamed new.pointer;
        room = omega (arith, length-flat all, length-flat forms, long, need, more);
      } in
      restored h v.index_area v all (count + 1) (record { number = count; start = begins }) can (kept ∙ ap (λ (w : Lists). record w { index_area = v.index_area }) is) (omega arith) (record { within = omega arith; start_is = place ∙ ap (start_of all) (sym counted) })

-- the store is still as long as what stands before the gaps
pub gapped-long : (s t : Lists) (from : ℕ) (gapped rest : List Cell) → from ≤ length s.store → t ≡ record s { store = take from s.store ++ gapped ++ rest } → from ≤ length t.store
gapped-long s t from gapped rest within is =
    omega (arith, ap (λ v. length v.store) is, length-append (take from s.store ++ gapped) rest, length-append (take from s.store) gapped, length-append gapped rest, length-append (take from s.store) (gapped ++ rest), length-take-le from s.store within)

-- a part of neutral that is written over the store leaves it as long as it was
pub written-long : (s t : Lists) (at a b : ℕ) → b ≤ length s.neutral → at + (b - a) ≤ length s.store → t ≡ record s { store = take at s.store ++ slice_range s.neutral a b ++ drop (at + (b - a)) s.store } → length t.store ≡ length s.store
written-long s t at a b within inside is =
    omega (arith, ap (λ v. length v.store) is, length-append (take at s.store ++ slice_range s.neutral a b) (drop (at + (b - a)) s.store), length-append (take at s.store) (slice_range s.neutral a b), length-take-le at s.store (omega (arith, inside)), length-between s.neutral a b within, length-drop (at + (b - a)) s.store, inside)

-- `cells`, which end at `end`, stand in place of a body that was no shorter, and the form's heads say how many
-- they are, and that its pointer is 0
pub record BodyWritten (s v : Lists) {forms : List Form} {k : ℕ} (place : BodyPlace forms k) (cells : List Cell) : Type 0 where
  pub end : ℕ
  pub end_is : end ≡ place.from + length cells
  pub within : end ≤ place.to
  pub written : v ≡ record s { store = set (set (take place.from s.store ++ cells ++ drop place.to s.store) (place.start + 1) (Head (end - place.from))) (place.start + 2) (Head 0) }

module _ {s : Lists} {count last begins : ℕ} (h : IsStored s count last begins) {k : ℕ} (place : BodyPlace (forms_in s.store) k) where
  abbrev forms : List Form
  forms = forms_in s.store

  abbrev form : Form
  form = form_at (forms_in s.store) k

  stood : Stands (forms_in s.store) s.store k place.start
  stood = stands forms s.store k place.start h.forms.whole place.within place.start_is

  rebodied : (v : Lists) (items : List Item) → BodyWritten s v place (map flat_item items) → v ≡ record s { store = flat_forms (set (forms_in s.store) k (record (form_at (forms_in s.store) k) { body = items; pointer = 0 })) }
  rebodied v items wrote =
      let count_is : wrote.end - place.from ≡ length items = omega (arith, wrote.end_is, length-map items flat_item) in
      wrote.written
      ∙ ap (λ n. record s { store = set (set (take place.from s.store ++ map flat_item items ++ drop place.to s.store) (place.start + 1) (Head n)) (place.start + 2) (Head 0) }) count_is
      ∙ ap (λ cells. record s { store = cells }) (regapped forms s.store k place items stood)

  -- form k with gaps for a text, once the forms behind it are found in the index where they begin then
  pub segmented-stored : (v w : Lists) (text : Text) (ordinal : ℕ) (wrote : BodyWritten s v place (segmented_cells text ordinal (slice_range s.store place.from place.to))) → w ≡ record v { index_area = w.index_area } → length w.index_area ≡ length v.index_area → ((names : ℕ → Text) → (starts : ℕ → ℕ) → IsIndexBut v.index_area count count names starts → IsIndexBut w.index_area count count names (started k count (place.to - wrote.end) starts)) → (w ≡ record s { index_area = w.index_area; store = flat_forms (set (forms_in s.store) k (record (form_at (forms_in s.store) k) { body = segment text ordinal (form_at (forms_in s.store) k).body; pointer = 0 })) }) × IsStored w count k place.start
  segmented-stored v w text ordinal wrote same len index =
      let items = segment text ordinal form.body in
      let part : slice_range s.store place.from place.to ≡ map flat_item form.body = ap (λ i. slice_range s.store place.from i) place.to_is ∙ ap (λ i. slice_range s.store i (i + length form.body)) place.from_is ∙ stood.body_part in
      let cells : segmented_cells text ordinal (slice_range s.store place.from place.to) ≡ map flat_item items = ap (segmented_cells text ordinal) part ∙ sym (flat-segment text ordinal form.body) in
      let size : wrote.end ≡ place.from + length items = wrote.end_is ∙ ap (λ l. place.from + length l) cells ∙ ap (λ n. place.from + n) (length-map items flat_item) in
      let new = record form { body = items; pointer = 0 } in
      let is = rebodied v items (subst (BodyWritten s v place) cells wrote) in
      let shorter = wrote.within in
      let fewer : form_cells new ≤ form_cells form = omega (arith, shorter, size, place.to_is) in
      let less = cells-set forms k new place.within fewer in
      let used = used-stored s h.forms.whole in
      let is_all = same ∙ ap (λ (l : Lists). record l { index_area = w.index_area }) is in
      let was : v.index_area ≡ s.index_area = ap (λ (l : Lists). l.index_area) is in
      let counted = h.count_is in
      let can : CanStand s w.index_area (set forms k new) = record {
        index = λ some.
            index-set forms k new place.within refl (place.to - wrote.end) (omega (arith, shorter, place.to_is, size)) w.index_area count counted
            (index (name_at forms) (start_of forms) (subst (λ l. IsIndexBut l count count (name_at forms) (start_of forms)) (sym was) (subst (λ n. IsIndexBut s.index_area n n (name_at forms) (start_of forms)) (sym counted) (h.index (omega (arith, some, len, ap length was))))));
        distinct = IsStore-set forms k new refl (omega arith) h.sound.forms;
        room = omega (arith, ap length h.forms.whole, h.sound.fits, less, used);
      } in
      (is_all, restored h w.index_area w (set forms k new) count (record { number = k; start = place.start }) can is_all (omega (arith, counted, length-set forms k new)) (record { within = omega (arith, place.within, length-set forms k new); start_is = place.start_is ∙ sym (start_of-set forms k new) }))

  -- form k with the characters of a part of neutral as its body, as many as its body has
  pub rewritten-stored : (v : Lists) (text : Part) → IsTextPart s.neutral text.from text.to → text.to - text.from ≡ length (form_at (forms_in s.store) k).body → BodyWritten s v place (slice_range s.neutral text.from text.to) → (v ≡ record s { store = flat_forms (set (forms_in s.store) k (record (form_at (forms_in s.store) k) { body = items_of (part_text s.neutral text.from text.to); pointer = 0 })) }) × IsStored v count k place.start
  rewritten-stored v text part same wrote =
      let cells = slice_range s.neutral text.from text.to in
      let characters = part_text s.neutral text.from text.to in
      let items = items_of characters in
      let new = record form { body = items; pointer = 0 } in
      let size : length items ≡ text.to - text.from = length-map characters item.Byte ∙ length-map cells character_of ∙ length-between s.neutral text.from text.to part.within in
      let flat : cells ≡ map flat_item items = sym (flat_items_of characters ∙ Byte-character_of cells part.bytes) in
      let is = rebodied v items (subst (BodyWritten s v place) flat wrote) in
      let less = cells-set forms k new place.within (omega (arith, size, same)) in
      let used = used-stored s h.forms.whole in
      let long : length (flat_form new) ≡ length (flat_form form) = omega (arith, size, same, length-flat_form new, length-flat_form form) in
      let can : CanStand s s.index_area (set forms k new) = record {
        index = index-replaced forms k new s.index_area refl long h.index;
        distinct = IsStore-set forms k new refl (omega arith) h.sound.forms;
        room = omega (arith, less, ap length h.forms.whole, h.sound.fits, used);
      } in
      (is, restored h s.index_area v (set forms k new) count (record { number = k; start = place.start }) can is (omega (arith, h.count_is, length-set forms k new)) (record { within = omega (arith, place.within, length-set forms k new); start_is = place.start_is ∙ sym (start_of-set forms k new) }))
