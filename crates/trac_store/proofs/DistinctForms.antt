-- Lists of forms of distinct names.
use Rattle.trac_store.proofs.Imports.{Located, ◌≡◌, ◌≢◌, ℕ, zero, suc, ◌+◌, ◌-◌, ◌<◌, ◌≤◌, Bool, true, false, List, [], ◌∷◌, ◌++◌, length, take, drop, set, slice_range, Option, Some, None, sym, ap, refl, ◌∙◌, subst, arith, bytes_eq, if◌then◌else◌, MatchOption, remove, both_ways, false_from_ne_true}
use Rattle.trac_store.proofs.Imports.{bytes_eq-Decides, take_more, take_all, take-append-drop, drop_all, set_split, append-nil, get_or-drop, length-drop, sum_by-remove, sum_by-set, sum_by-cons, Text, Form, items_of, is_named, form_named, without, changed, defined, form_cells, cells, NoneNamed}
use Rattle.trac_store.proofs.Imports.{IsStore, flat_forms, form_at, IsNamedAt, IsFoundAt}
use Rattle.trac_store.proofs.FlatLemmas.{length-flat}

pub NoneNamed-push : (name : Text) (forms : List Form) (form : Form) → NoneNamed name forms → form.name ≢ name → NoneNamed name (forms ++ form ∷ [])
NoneNamed-push name [] form h other = (other, tt)
NoneNamed-push name (f ∷ forms) form h other = (h.0, NoneNamed-push name forms form h.1 other)

-- if no form before a place has the name, nor the one there, none before the next place has it
pub NoneNamed-more : (name : Text) (forms : List Form) (k : ℕ) → k < length forms → NoneNamed name (take k forms) → (form_at forms k).name ≢ name → NoneNamed name (take (k + 1) forms)
NoneNamed-more name forms k within h other =
    let more = take_more forms k (record { name = []; body = []; pointer = 0 }) within in
    rw more (NoneNamed-push name (take k forms) (form_at forms k) h other)

-- if no form from a place up to another has the name, nor the one there, none up to the next place has it
pub NoneNamed-further : (name : Text) (forms : List Form) (from k : ℕ) → from ≤ k → k < length forms → NoneNamed name (slice_range forms from k) → (form_at forms k).name ≢ name → NoneNamed name (slice_range forms from (k + 1))
NoneNamed-further name forms from k order within h other =
    let more : k + 1 - from ≡ k - from + 1 = omega (arith, order) in
    let at : from + (k - from) ≡ k = omega (arith, order) in
    let inside : k - from < length (drop from forms) = omega (arith, order, within, length-drop from forms) in
    let form : form_at (drop from forms) (k - from) ≡ form_at forms k = get_or-drop from forms (k - from) (record { name = []; body = []; pointer = 0 }) ∙ ap (form_at forms) at in
    rw more (NoneNamed-more name (drop from forms) (k - from) inside h (λ e. other (sym (ap (λ (f : Form). f.name) form) ∙ e)))

NoneNamed-append : (name : Text) (xs ys : List Form) → NoneNamed name xs → NoneNamed name ys → NoneNamed name (xs ++ ys)
NoneNamed-append name [] ys before after = after
NoneNamed-append name (form ∷ xs) ys before after = (before.0, NoneNamed-append name xs ys before.1 after)

-- none from a place on, and none up to it
pub NoneNamed-round : (name : Text) (forms : List Form) (from end : ℕ) → end ≡ length forms → NoneNamed name (slice_range forms from end) → NoneNamed name (slice_range forms 0 from) → NoneNamed name forms
NoneNamed-round name forms from end whole after before =
    let rest : slice_range forms from end ≡ drop from forms = take_all (end - from) (drop from forms) (omega (arith, whole, length-drop from forms)) in
    let all : from - 0 ≡ from = omega arith in
    let first : NoneNamed name (take from forms) = subst (λ n. NoneNamed name (take n forms)) all before in
    subst (NoneNamed name) (take-append-drop from forms) (NoneNamed-append name (take from forms) (drop from forms) first (rw rest at after))

-- the answer of a search up to a place, where there was none from it on
pub found-round : (name : Text) (forms : List Form) (from end : ℕ) (found : Option Located) → end ≡ length forms → NoneNamed name (slice_range forms from end) → MatchOption found (NoneNamed name (slice_range forms 0 from)) (λ at. IsFoundAt forms name at.number at.start) → MatchOption found (NoneNamed name forms) (λ at. IsFoundAt forms name at.number at.start)
found-round name forms from end None whole after before = NoneNamed-round name forms from end whole after before
found-round name forms from end (Some at) whole after found = found

NoneNamed-remove : (name : Text) (forms : List Form) (k : ℕ) → NoneNamed name forms → NoneNamed name (remove forms k)
NoneNamed-remove name [] zero h = tt
NoneNamed-remove name [] (suc k) h = tt
NoneNamed-remove name (form ∷ forms) zero h = h.1
NoneNamed-remove name (form ∷ forms) (suc k) h = (h.0, NoneNamed-remove name forms k h.1)

pub IsStore-remove : (forms : List Form) (k : ℕ) → IsStore forms → IsStore (remove forms k)
IsStore-remove [] zero h = tt
IsStore-remove [] (suc k) h = tt
IsStore-remove (form ∷ forms) zero h = h.2
IsStore-remove (form ∷ forms) (suc k) h = (h.0, NoneNamed-remove form.name forms k h.1, IsStore-remove forms k h.2)

pub IsStore-push : (forms : List Form) (form : Form) → IsStore forms → NoneNamed form.name forms → form.pointer ≤ length form.body → IsStore (forms ++ form ∷ [])
IsStore-push [] form h none within = (within, tt, tt)
IsStore-push (f ∷ forms) form h none within =
    (h.0, NoneNamed-push f.name forms form h.1 (λ e. none.0 (sym e)), IsStore-push forms form h.2 none.1 within)

pub NoneNamed-set : (name : Text) (forms : List Form) (k : ℕ) (form : Form) → form.name ≡ (form_at forms k).name → NoneNamed name forms → NoneNamed name (set forms k form)
NoneNamed-set name [] k form same h = tt
NoneNamed-set name (f ∷ forms) zero form same h = (λ e. h.0 (sym same ∙ e), h.1)
NoneNamed-set name (f ∷ forms) (suc k) form same h = (h.0, NoneNamed-set name forms k form same h.1)

pub IsStore-set : (forms : List Form) (k : ℕ) (form : Form) → form.name ≡ (form_at forms k).name → form.pointer ≤ length form.body → IsStore forms → IsStore (set forms k form)
IsStore-set [] k form same within h = tt
IsStore-set (f ∷ forms) zero form same within h = (within, rw same h.1, h.2)
IsStore-set (f ∷ forms) (suc k) form same within h = (h.0, NoneNamed-set f.name forms k form same h.1, IsStore-set forms k form same within h.2)

-- the pointer of each form is a place of its body
pub pointer-within : (forms : List Form) (k : ℕ) → IsStore forms → (form_at forms k).pointer ≤ length (form_at forms k).body
pointer-within [] k h = omega arith
pointer-within (form ∷ forms) zero h = h.0
pointer-within (form ∷ forms) (suc k) h = pointer-within forms k h.2

pub other_name : (name : Text) (form : Form) → form.name ≢ name → is_named name form ≡ false
other_name name form other = false_from_ne_true (bytes_eq form.name name) (λ e. other ((bytes_eq-Decides form.name name).0 e))

pub same_name : (name : Text) (form : Form) → form.name ≡ name → is_named name form ≡ true
same_name name form same = (bytes_eq-Decides form.name name).1 same

-- a form that stands behind is another than one whose name no later form has
not_later : (name : Text) (forms : List Form) (k : ℕ) → NoneNamed name forms → k < length forms → (form_at forms k).name ≢ name
not_later name [] k none within = absurd (omega arith)
not_later name (form ∷ forms) zero none within = none.0
not_later name (form ∷ forms) (suc k) none within = not_later name forms k none.1 (omega arith)

pub earlier_differs : (name : Text) (form : Form) (forms : List Form) (k : ℕ) → NoneNamed form.name forms → IsNamedAt (form ∷ forms) name (suc k) → form.name ≢ name
earlier_differs name form forms k none h e = not_later form.name forms k none (omega (arith, h.within)) (h.named ∙ sym e)

-- the form at a place, and what the list is without it or with it changed, by its name
pub form_named-at : (name : Text) (forms : List Form) (k : ℕ) → IsStore forms → IsNamedAt forms name k → form_named name forms ≡ Some (form_at forms k)
form_named-at name [] k h at = absurd (omega (arith, at.within))
form_named-at name (form ∷ forms) zero h at = let e = same_name name form at.named in rw e
form_named-at name (form ∷ forms) (suc k) h at =
    let e = other_name name form (earlier_differs name form forms k h.1 at) in
    let more = form_named-at name forms k h.2 (record { within = omega (arith, at.within); named = at.named }) in
    rw e more

pub without-at : (name : Text) (forms : List Form) (k : ℕ) → IsStore forms → IsNamedAt forms name k → without name forms ≡ remove forms k
without-at name [] k h at = absurd (omega (arith, at.within))
without-at name (form ∷ forms) zero h at = let e = same_name name form at.named in rw e
without-at name (form ∷ forms) (suc k) h at =
    let e = other_name name form (earlier_differs name form forms k h.1 at) in
    let more = without-at name forms k h.2 (record { within = omega (arith, at.within); named = at.named }) in
    rw e (ap (λ fs. form ∷ fs) more)

-- the last form gets another body where it stands
pub defined-last : (name text : Text) (forms : List Form) (k : ℕ) → IsStore forms → IsNamedAt forms name k → length forms ≤ k + 1 → set forms k (record (form_at forms k) { body = items_of text; pointer = 0 }) ≡ defined name text forms
defined-last name text forms k h at last =
    let form : Form = record { name = name; body = items_of text; pointer = 0 } in
    let none : drop (suc k) forms ≡ [] = drop_all (suc k) forms (omega (arith, last)) in
    let named : record (form_at forms k) { body = items_of text; pointer = 0 } ≡ form = ap (λ n. record form { name = n }) at.named in
    ap (set forms k) named
    ∙ set_split forms k form at.within
    ∙ ap (λ rest. take k forms ++ form ∷ rest) none
    ∙ ap (λ fs. fs ++ form ∷ []) (sym (append-nil (take k forms)) ∙ ap (λ rest. take k forms ++ rest) (sym none) ∙ sym (without-at name forms k h at))

pub changed-at : (name : Text) (change : Form → Form) (forms : List Form) (k : ℕ) → IsStore forms → IsNamedAt forms name k → changed name change forms ≡ set forms k (change (form_at forms k))
changed-at name change [] k h at = absurd (omega (arith, at.within))
changed-at name change (form ∷ forms) zero h at = let e = same_name name form at.named in rw e
changed-at name change (form ∷ forms) (suc k) h at =
    let e = other_name name form (earlier_differs name form forms k h.1 at) in
    let more = changed-at name change forms k h.2 (record { within = omega (arith, at.within); named = at.named }) in
    rw e (ap (λ fs. form ∷ fs) more)

-- if no form has the name, none is found, and the list without that form is the whole list
pub form_named-none : (name : Text) (forms : List Form) → NoneNamed name forms → form_named name forms ≡ None
form_named-none name [] h = refl
form_named-none name (form ∷ forms) h = let e = other_name name form h.0 in rw e (form_named-none name forms h.1)

pub without-none : (name : Text) (forms : List Form) → NoneNamed name forms → without name forms ≡ forms
without-none name [] h = refl
without-none name (form ∷ forms) h = let e = other_name name form h.0 in rw e (ap (λ fs. form ∷ fs) (without-none name forms h.1))

-- how many cells the forms have without one, or with another in place of one
pub cells-remove : (forms : List Form) (k : ℕ) → k < length forms → length (flat_forms (remove forms k)) ≤ length (flat_forms forms)
cells-remove forms k within =
    omega (arith, length-flat (remove forms k), length-flat forms, sum_by-remove form_cells forms k (record { name = []; body = []; pointer = 0 }) within)

pub cells-set : (forms : List Form) (k : ℕ) (form : Form) → k < length forms → form_cells form ≤ form_cells (form_at forms k) → length (flat_forms (set forms k form)) ≤ length (flat_forms forms)
cells-set forms k form within fewer =
    omega (arith, length-flat (set forms k form), length-flat forms, sum_by-set form_cells forms k form (record { name = []; body = []; pointer = 0 }) within)

-- without the form of a name none has the name
pub NoneNamed-after : (name : Text) (forms : List Form) → IsStore forms → NoneNamed name (without name forms)
NoneNamed-after name [] h = tt
NoneNamed-after name (form ∷ forms) h = go (is_named name form) refl (NoneNamed-after name forms h.2)
  where
    go : (b : Bool) → is_named name form ≡ b → NoneNamed name (without name forms) → NoneNamed name (if b then forms else form ∷ without name forms)
    go true e more = subst (λ n. NoneNamed n forms) ((bytes_eq-Decides form.name name).0 e) h.1
    go false e more = (λ same. both_ways (is_named name form) e (same_name name form same), more)

-- without the form of a name there are no more cells
pub cells-without : (name : Text) (forms : List Form) → cells (without name forms) ≤ cells forms
cells-without name [] = omega arith
cells-without name (form ∷ forms) = go (is_named name form) (cells-without name forms)
  where
    go : (b : Bool) → cells (without name forms) ≤ cells forms → cells (if b then forms else form ∷ without name forms) ≤ cells (form ∷ forms)
    go true more = omega (arith, sum_by-cons form_cells form forms)
    go false more = omega (arith, sum_by-cons form_cells form forms, sum_by-cons form_cells form (without name forms))
