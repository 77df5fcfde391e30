-- The store while the marked forms are taken out of it, in order.
use Rattle.trac_forms.proofs.Imports.{◌≡◌, ℕ, zero, suc, ◌+◌, ◌-◌, ◌<◌, ◌≤◌, true, false, List, [], ◌∷◌, ◌++◌, length, take, drop, slice_range, slice_get, sym, ap, refl, ◌∙◌, arith, not, append_assoc, append-nil, take-append-drop, length-append, length-drop, length-take-le}
use Rattle.trac_forms.proofs.Imports.{length_push, take_more, take_at, drop_at, drop-drop, flat_map_more, flat_map-append, length-between, drop-append-drop, filter-append, Form, Cell, Lists, part-on, flat_form, flat_forms, form_at}
use Rattle.trac_forms.proofs.Imports.{IsMarkedFrom, is_marked, unmarked, forms_in, start_of, head_number, head_at, IsPlace, places, rules, same_lists}
use Rattle.trac_store.proofs.FlatLemmas.{length-flat_form}
use Rattle.trac_store.proofs.Places.{Stands, stands, slice_get-drop}

-- of the first i forms, which end at `from`, those without a mark stand before the gap from a up to
-- b and behind it, and what stands from `from` on is as it was
pub record IsSweptTo (old now : Lists) (i a b from kept : ℕ) : Type 0 where
  pub same : now ≡ record old { store = now.store }
  pub len : length now.store ≡ length old.store
  pub begins : from ≡ start_of (forms_in old.store) i
  pub behind : drop from now.store ≡ drop from old.store
  pub gap : a ≤ b
  pub order : b ≤ from
  pub cells : take a now.store ++ slice_range now.store b from ≡ flat_forms (unmarked (take i (forms_in old.store)))
  pub few : kept ≤ i
  pub count : kept ≡ length (unmarked (take i (forms_in old.store)))

swept-heads : (was now : List Cell) (from i : ℕ) → drop from now ≡ drop from was → head_at now (from + i) ≡ head_at was (from + i)
swept-heads was now from i behind =
    sym (ap head_number (slice_get-drop from now i)) ∙ ap (λ cells. head_number (slice_get cells i)) behind ∙ ap head_number (slice_get-drop from was i)

-- the forms without a mark up to the next
next-unmarked : (forms : List Form) (i : ℕ) → i < length forms → unmarked (take (i + 1) forms) ≡ unmarked (take i forms) ++ unmarked (form_at forms i ∷ [])
next-unmarked forms i within =
    ap unmarked (take_more forms i (record { name = []; body = []; pointer = 0 }) within)
    ∙ filter-append (λ form. not (is_marked form)) (take i forms) (form_at forms i ∷ [])

module _ {old now : Lists} {i a b from kept : ℕ} (h : IsSweptTo old now i a b from kept) (whole : flat_forms (forms_in old.store) ≡ old.store) (within : i < length (forms_in old.store)) where
  abbrev forms : List Form
  forms = forms_in old.store

  abbrev form : Form
  form = form_at (forms_in old.store) i

  f : Stands (forms_in old.store) old.store i from
  f = stands (forms_in old.store) old.store i from whole within h.begins

  pub swept-name : head_at now.store from ≡ length form.name
  swept-name =
      let e : from ≡ from + 0 = omega arith in
      ap (head_at now.store) e ∙ swept-heads old.store now.store from 0 h.behind ∙ ap (head_at old.store) (sym e) ∙ f.name_len

  pub swept-body : head_at now.store (from + 1) ≡ length form.body
  swept-body = swept-heads old.store now.store from 1 h.behind ∙ f.body_len

  pub swept-pointer : head_at now.store (from + 2) ≡ form.pointer
  swept-pointer = swept-heads old.store now.store from 2 h.behind ∙ f.pointer

  pub swept-end : from + (3 + length form.name + length form.body) ≤ length now.store
  swept-end = omega (arith, f.end, h.len)

  module _ (end : ℕ) (ends : end ≡ from + (3 + length form.name + length form.body)) where
    begins-next : end ≡ start_of (forms_in old.store) (i + 1)
    begins-next = ends ∙ sym f.next

    -- the cells of the form
    form-part : slice_range now.store from end ≡ flat_form form
    form-part =
        let size : end - from ≡ 3 + length form.name + length form.body = omega (arith, ends) in
        let cells = ap (drop from) f.split ∙ drop_at (flat_forms (take i forms)) (flat_form form ++ flat_forms (drop (i + 1) forms)) from (sym h.begins) in
        let long : length (flat_form form) ≡ end - from = omega (arith, size, length-flat_form form) in
        ap (take (end - from)) (h.behind ∙ cells) ∙ take_at (flat_form form) (flat_forms (drop (i + 1) forms)) (end - from) long

    behind-next : drop end now.store ≡ drop end old.store
    behind-next =
        let n = 3 + length form.name + length form.body in
        ap (λ k. drop k now.store) ends ∙ sym (drop-drop n from now.store) ∙ ap (drop n) h.behind ∙ drop-drop n from old.store ∙ ap (λ k. drop k old.store) (sym ends)

    pub swept-more : is_marked form ≡ false → IsSweptTo old now (i + 1) a b end (kept + 1)
    swept-more none_before =
        let next : unmarked (take (i + 1) forms) ≡ unmarked (take i forms) ++ form ∷ [] = next-unmarked forms i within ∙ rw none_before refl in
        let size : b + ((from - b) + (end - from)) ≡ end = omega (arith, h.order, ends) in
        let first : b + (from - b) ≡ from = omega (arith, h.order) in
        let last : b + (from - b) + (end - from) ≡ end = omega (arith, h.order, ends) in
        let on : slice_range now.store b end ≡ slice_range now.store b from ++ slice_range now.store from end =
        rw (size, last, first) at (part-on now.store b (from - b) (end - from)) in
        record {
          same = h.same;
          len = h.len;
          begins = begins-next;
          behind = behind-next;
          gap = h.gap;
          order = omega (arith, h.order, ends);
          cells = ap (λ cells. take a now.store ++ cells) on
              ∙ sym (append_assoc (take a now.store) (slice_range now.store b from) (slice_range now.store from end))
              ∙ ap (λ cells. cells ++ slice_range now.store from end) h.cells
              ∙ ap (λ cells. flat_forms (unmarked (take i forms)) ++ cells) form-part
              ∙ flat_map_more flat_form [] (unmarked (take i forms)) form
              ∙ ap flat_forms (sym next);
          few = omega (arith, h.few);
          count = omega (arith, h.count, ap length next, length_push (unmarked (take i forms)) form);
        }

    pub swept-gone : (new : Lists) → is_marked form ≡ true → new ≡ record now { store = take a now.store ++ slice_range now.store b from ++ drop (a + (from - b)) now.store } → IsSweptTo old new (i + 1) (a + (from - b)) end end kept
    swept-gone new is moved =
        let next : unmarked (take (i + 1) forms) ≡ unmarked (take i forms) = next-unmarked forms i within ∙ rw is (append-nil (unmarked (take i forms))) in
        let there = take a now.store ++ slice_range now.store b from in
        let at = a + (from - b) in
        let fits = swept-end in
        let store : new.store ≡ there ++ drop at now.store = ap (λ (w : Lists). w.store) moved in
        let long : length there ≡ at = omega (arith, length-append (take a now.store) (slice_range now.store b from), length-take-le a now.store (omega (arith, h.gap, h.order)), length-between now.store b from (omega (arith, fits)), h.order) in
        let len : length new.store ≡ length now.store = ap length store ∙ omega (arith, length-append there (drop at now.store), length-drop at now.store, long, h.gap, h.order, fits) in
        let none : end - end ≡ 0 = omega arith in
        let behind : drop end new.store ≡ drop end now.store =
        ap (drop end) store ∙ drop-append-drop at now.store there end (omega (arith, h.gap, h.order, ends)) long in
        record {
          same = moved ∙ ap (λ (w : Lists). record w { store = there ++ drop at now.store }) h.same ∙ ap (λ cells. record old { store = cells }) (sym store);
          len = len ∙ h.len;
          begins = begins-next;
          behind = behind ∙ behind-next;
          gap = omega (arith, h.gap, h.order, ends);
          order = omega arith;
          cells = ap (λ n. take at new.store ++ take n (drop end new.store)) none ∙ append-nil (take at new.store)
              ∙ ap (take at) store ∙ take_at there (drop at now.store) at long ∙ h.cells ∙ ap flat_forms (sym next);
          few = omega (arith, h.few);
          count = h.count ∙ ap length (sym next);
        }

-- forms without a mark all stay
pub none-taken : (forms : List Form) (k : ℕ) → ((j : ℕ) → j < k → is_marked (form_at forms j) ≡ false) → unmarked (take k forms) ≡ take k forms
none-taken [] zero none_before = refl
none-taken [] (suc k) none_before = refl
none-taken (form ∷ forms) zero none_before = refl
none-taken (form ∷ forms) (suc k) none_before =
    let e = none_before 0 (omega arith) in
    rw e (ap (λ fs. form ∷ fs) (none-taken forms k (λ j less. none_before (suc j) (omega (arith, less)))))

-- the first forms have none
pub swept-first : (old : Lists) (k at : ℕ) → flat_forms (forms_in old.store) ≡ old.store → IsMarkedFrom (forms_in old.store) k at → IsSweptTo old old k at at at k
swept-first old k at whole h =
    let forms = forms_in old.store in
    let none : at - at ≡ 0 = omega arith in
    let stay = none-taken forms k h.none_before in
    let parts = sym whole ∙ ap flat_forms (sym (take-append-drop k forms)) ∙ flat_map-append flat_form (take k forms) (drop k forms) in
    let front : take at old.store ≡ flat_forms (take k forms) = ap (take at) parts ∙ take_at (flat_forms (take k forms)) (flat_forms (drop k forms)) at (sym h.place.start_is) in
    record {
      same = refl;
      len = refl;
      begins = h.place.start_is;
      behind = refl;
      gap = omega arith;
      order = omega arith;
      cells = ap (λ n. take at old.store ++ take n (drop at old.store)) none ∙ append-nil (take at old.store) ∙ front ∙ ap flat_forms (sym stay);
      few = omega arith;
      count = sym (ap length stay ∙ length-take-le k forms h.place.within);
    }

-- the first forms are those of the list that stays
module _ (forms : List Form) (k at : ℕ) (h : IsMarkedFrom forms k at) where
  stays : unmarked forms ≡ take k forms ++ unmarked (drop k forms)
  stays =
      ap unmarked (sym (take-append-drop k forms))
      ∙ filter-append (λ form. not (is_marked form)) (take k forms) (drop k forms)
      ∙ ap (λ fs. fs ++ unmarked (drop k forms)) (none-taken forms k h.none_before)

  pub first-stay : take k (unmarked forms) ≡ take k forms
  first-stay = ap (take k) stays ∙ take_at (take k forms) (unmarked (drop k forms)) k (length-take-le k forms h.place.within)

  pub place-stays : IsPlace (unmarked forms) k at
  place-stays = record {
    within = omega (arith, ap length stays, length-append (take k forms) (unmarked (drop k forms)), length-take-le k forms h.place.within);
    start_is = h.place.start_is ∙ ap (λ fs. length (flat_forms fs)) (sym first-stay);
  }

-- where there is no gap nothing moves
pub unmoved : (s : Lists) (a b from : ℕ) → a ≡ b → b ≤ from → s ≡ record s { store = take a s.store ++ slice_range s.store b from ++ drop (a + (from - b)) s.store }
unmoved s a b from same order = ap (λ cells. record s { store = cells }) (same_lists _ _ (search (rules, places)) (λ k d less. grind (arith, places)))
