-- Forms that are marked, and then removed.
use Rattle.trac_forms.proofs.Imports.{AreForms, Located, ◌≡◌, ℕ, zero, suc, ◌+◌, ◌≤◌, Bool, true, false, List, [], ◌∷◌, length, set, slice_range, sym, ap, refl, ◌∙◌, subst, arith, ◌⊎◌, ⊎_elim, if◌then◌else◌, filter, not, ◌||◌, ◌==◌, length-append, length-set, get_or-set_other, All-head}
use Rattle.trac_forms.proofs.Imports.{All-tail, Text, Form, is_named, NoneNamed, IsStore, Cell, Head, Lists, flat_form, flat_forms, form_at, IsNamedAt, IsTextPart, part_text, part_texts, before_comma, parts_between, texts_between, AreParted, IsPlace, forms_in}
use Rattle.trac_forms.proofs.Imports.{is_among, without_all, mark, is_marked, marked, marked_if, with_marks, unmarked, HaveOwnNames, IsFormed, IsMarkedFrom}
use Rattle.trac_store.proofs.FlatLemmas.{forms_in-flat, length-flat_form}
use Rattle.trac_store.proofs.Places.{stands, repointed, start_of-set}
use Rattle.trac_store.proofs.ArgumentParts.{parts-first, part-fits}
use Rattle.trac_store.proofs.IndexSearch.{index-pointer, same_start}
use Rattle.trac_store.specs.Stored.{IsFoundAt, IsLocated}
use Rattle.trac_store.proofs.DistinctForms.{cells-set, same_name, other_name, earlier_differs, NoneNamed-set}

-- ---- distinct names

pub own-names : (forms : List Form) → IsStore forms → HaveOwnNames forms
own-names [] h = tt
own-names (form ∷ forms) h = (h.1, own-names forms h.2)

pub own-set : (forms : List Form) (k : ℕ) (form : Form) → form.name ≡ (form_at forms k).name → HaveOwnNames forms → HaveOwnNames (set forms k form)
own-set [] k form same h = tt
own-set (f ∷ forms) zero form same h = (rw same h.0, h.1)
own-set (f ∷ forms) (suc k) form same h = (NoneNamed-set f.name forms k form same h.0, own-set forms k form same h.1)

-- ---- marks

pub marks-none : (forms : List Form) → with_marks [] forms ≡ forms
marks-none [] = refl
marks-none (form ∷ forms) = ap (λ fs. form ∷ fs) (marks-none forms)

twice : (a b : Bool) (names : List Text) (form : Form) → marked_if (a || b) form ≡ marked_if b (marked_if (a || false) form)
twice true true names form = refl
twice true false names form = refl
twice false true names form = refl
twice false false names form = refl

among-marked : (a : Bool) (names : List Text) (form : Form) → is_among names (marked_if a form) ≡ is_among names form
among-marked true names form = refl
among-marked false names form = refl

-- the marks of the first name may be set before those of the others
pub marks-first : (name : Text) (names : List Text) (forms : List Form) → with_marks (name ∷ names) forms ≡ with_marks names (with_marks (name ∷ []) forms)
marks-first name names [] = refl
marks-first name names (form ∷ forms) =
    let a = is_named name form in
    let one : marked_if (a || is_among names form) form ≡ marked_if (is_among names (marked_if (a || false) form)) (marked_if (a || false) form) =
    twice a (is_among names form) names form ∙ ap (λ b. marked_if b (marked_if (a || false) form)) (sym (among-marked (a || false) names form)) in
    ap (λ f. f ∷ with_marks (name ∷ names) forms) one ∙ ap (λ fs. marked_if (is_among names (marked_if (a || false) form)) (marked_if (a || false) form) ∷ fs) (marks-first name names forms)

-- the mark of a name that no form has, and of one that a form has
pub mark-none : (name : Text) (forms : List Form) → NoneNamed name forms → with_marks (name ∷ []) forms ≡ forms
mark-none name [] h = refl
mark-none name (form ∷ forms) h = let e = other_name name form h.0 in rw e (ap (λ fs. form ∷ fs) (mark-none name forms h.1))

pub mark-at : (name : Text) (forms : List Form) (k : ℕ) → HaveOwnNames forms → IsNamedAt forms name k → with_marks (name ∷ []) forms ≡ set forms k (marked (form_at forms k))
mark-at name [] k h at = absurd (omega (arith, at.within))
mark-at name (form ∷ forms) zero h at =
    let e = same_name name form at.named in
    let rest = mark-none name forms (subst (λ n. NoneNamed n forms) at.named h.0) in
    rw e (ap (λ fs. marked form ∷ fs) rest)
mark-at name (form ∷ forms) (suc k) h at =
    let e = other_name name form (earlier_differs name form forms k h.0 at) in
    let more = mark-at name forms k h.1 (record { within = omega (arith, at.within); named = at.named }) in
    rw e (ap (λ fs. form ∷ fs) more)

-- a form is marked that was found for a name
module _ {s : Lists} {count last start k at : ℕ} {name : Text} (h : IsFormed s count last start) (found : IsFoundAt (forms_in s.store) name k at) where
  pub marked-lists : (t : Lists) → t ≡ record s { store = set s.store (at + 2) (Head mark) } → (t ≡ record s { store = flat_forms (with_marks (name ∷ []) (forms_in s.store)) }) × IsFormed t count k at
  marked-lists t written =
      let named = found.named in
      let begins = found.start_is in
      let forms = forms_in s.store in
      let form = marked (form_at forms k) in
      let new = set forms k form in
      let f = stands forms s.store k at h.kept.has.forms.whole named.within begins in
      let cells = repointed forms s.store k at mark named.within begins f in
      let is : t ≡ record s { store = flat_forms new } = written ∙ ap (λ cells. record s { store = cells }) cells in
      let read = forms_in-flat new in
      let size = length-set forms k form in
      let fewer = cells-set forms k form named.within (omega arith) in (
        is ∙ ap (λ fs. record s { store = flat_forms fs }) (sym (mark-at name forms k h.distinct named)),
        subst (λ (l : Lists). IsFormed l count k at) (sym is) (record {
          kept = record {
            has = record {
              forms = record { whole = rw read refl; bounded = omega (arith, h.kept.has.forms.bounded, fewer, ap length h.kept.has.forms.whole) };
              count_is = rw read (omega (arith, h.kept.has.count_is, size));
              index = rw read (index-pointer forms k mark s.index_area h.kept.has.index);
            };
            place = rw read (record { within = omega (arith, named.within, size); start_is = begins ∙ sym (start_of-set forms k form) });
          };
          distinct = rw read (own-set forms k form refl h.distinct);
        }),
      )

-- a form whose pointer is a place of its body has no mark
pub no-mark : (n : ℕ) → n ≤ 16777216 → (n == mark) ≡ false
no-mark n small = grind arith

-- of two forms, `now` is the one that comes first
pub record IsEarlier (a b now : Located) : Type 0 where
  pub one : (now ≡ a) ⊎ (now ≡ b)
  pub first : now.number ≤ a.number
  pub second : now.number ≤ b.number

-- where the first mark is or may be, once a form is marked
pub marked-from : (forms : List Form) (first at now : Located) → IsMarkedFrom forms first.number first.start → IsLocated forms at.number at.start → IsEarlier first at now → IsMarkedFrom (set forms at.number (marked (form_at forms at.number))) now.number now.start
marked-from forms first at now h located earlier =
    let k = at.number in
    let within = located.within in
    let before = earlier.first in
    let order = earlier.second in
    let form = marked (form_at forms k) in
    let place : IsPlace forms now.number now.start = ⊎_elim
    (λ e. subst (λ (at : Located). IsPlace forms at.number at.start) (sym e) h.place)
    (λ e. subst (λ (at : Located). IsPlace forms at.number at.start) (sym e) (record { within = omega (arith, within); start_is = located.start_is }))
    earlier.one in
    record {
      place = record {
        within = omega (arith, place.within, length-set forms k form);
        start_is = place.start_is ∙ sym (same_start (record (form_at forms k) { pointer = mark }) forms k now.number refl);
      };
      none_before = λ j less.
          let other = get_or-set_other forms k j form (record { name = []; body = []; pointer = 0 }) (λ e. absurd (omega (arith, e, less, order))) in
          ap is_marked other ∙ h.none_before j (omega (arith, less, before));
    }

-- the forms of the store then
pub marked-read : (s t : Lists) (k : ℕ) (name : Text) → HaveOwnNames (forms_in s.store) → IsNamedAt (forms_in s.store) name k → t ≡ record s { store = flat_forms (with_marks (name ∷ []) (forms_in s.store)) } → forms_in t.store ≡ set (forms_in s.store) k (marked (form_at (forms_in s.store) k))
marked-read s t k name distinct named is =
    ap (λ (w : Lists). forms_in w.store) is ∙ forms_in-flat (with_marks (name ∷ []) (forms_in s.store)) ∙ mark-at name (forms_in s.store) k distinct named

-- ---- what stays

length-cons : (form : Form) (forms : List Form) → length (flat_forms (form ∷ forms)) ≡ length (flat_form form) + length (flat_forms forms)
length-cons form forms = length-append (flat_form form) (flat_forms forms)

pub unmarked-marks : (names : List Text) (forms : List Form) → IsStore forms → length (flat_forms forms) ≤ 16777216 → unmarked (with_marks names forms) ≡ without_all names forms
unmarked-marks names [] h few = refl
unmarked-marks names (form ∷ forms) h few =
    let size = length-cons form forms in
    let more = unmarked-marks names forms h.2 (omega (arith, few, size)) in
    let small : form.pointer ≤ 16777216 = omega (arith, h.0, few, size, length-flat_form form) in
    go (is_among names form) (no-mark form.pointer small) more
  where
    go : (b : Bool) → is_marked form ≡ false → unmarked (with_marks names forms) ≡ without_all names forms → (if not (is_marked (marked_if b form)) then marked_if b form ∷ unmarked (with_marks names forms) else unmarked (with_marks names forms)) ≡ (if not b then form ∷ without_all names forms else without_all names forms)
    go true none_before more = more
    go false none_before more = rw none_before (ap (λ fs. form ∷ fs) more)

-- some of the forms, in their order
NoneNamed-filter : (stays : Form → Bool) (other : Text) (forms : List Form) → NoneNamed other forms → NoneNamed other (filter stays forms)
NoneNamed-filter stays other [] h = tt
NoneNamed-filter stays other (form ∷ forms) h = go (stays form) (NoneNamed-filter stays other forms h.1)
  where
    go : (b : Bool) → NoneNamed other (filter stays forms) → NoneNamed other (if b then form ∷ filter stays forms else filter stays forms)
    go true more = (h.0, more)
    go false more = more

pub IsStore-filter : (stays : Form → Bool) (forms : List Form) → IsStore forms → IsStore (filter stays forms)
IsStore-filter stays [] h = tt
IsStore-filter stays (form ∷ forms) h = go (stays form) (IsStore-filter stays forms h.2)
  where
    go : (b : Bool) → IsStore (filter stays forms) → IsStore (if b then form ∷ filter stays forms else filter stays forms)
    go true more = (h.0, NoneNamed-filter stays form.name forms h.1, more)
    go false more = more

pub cells-filter : (stays : Form → Bool) (forms : List Form) → length (flat_forms (filter stays forms)) ≤ length (flat_forms forms)
cells-filter stays [] = omega arith
cells-filter stays (form ∷ forms) = go (stays form) (cells-filter stays forms)
  where
    go : (b : Bool) → length (flat_forms (filter stays forms)) ≤ length (flat_forms forms) → length (flat_forms (if b then form ∷ filter stays forms else filter stays forms)) ≤ length (flat_forms (form ∷ forms))
    go true more = omega (arith, length-cons form forms, length-cons form (filter stays forms))
    go false more = omega (arith, length-cons form forms)

-- the store once the marked forms are out of it
module _ (s t u : Lists) (kept : t ≡ record s { index_area = t.index_area }) (gone : u ≡ record t { store = flat_forms (unmarked (forms_in t.store)) }) where
  pub unmarked-store : u.store ≡ flat_forms (unmarked (forms_in s.store))
  unmarked-store = ap (λ (w : Lists). w.store) gone ∙ ap (λ (w : Lists). flat_forms (unmarked (forms_in w.store))) kept

  pub unmarked-read : forms_in u.store ≡ unmarked (forms_in s.store)
  unmarked-read = ap forms_in unmarked-store ∙ forms_in-flat (unmarked (forms_in s.store))

  pub unmarked-forms : AreForms s.store → AreForms u.store
  unmarked-forms h = record {
    whole = ap flat_forms unmarked-read ∙ sym unmarked-store;
    bounded = omega (arith, ap length unmarked-store, ap length h.whole, cells-filter (λ form. not (is_marked form)) (forms_in s.store), h.bounded);
  }

-- ---- the names

-- the first of the texts between comma marks, and those behind it
module _ (neutral : List Cell) (from end n : ℕ) (h : AreParted neutral from end) (le : from ≤ end) (is : n ≡ before_comma (slice_range neutral from end)) where
  parts-split : parts_between neutral from end ≡ (from, from + n) ∷ parts_between neutral (from + n + 1) end
  parts-split = parts-first neutral from end n le h.within is

  pub first-part : IsTextPart neutral from (from + n)
  first-part = All-head (λ part. IsTextPart neutral part.0 part.1) (from, from + n) (parts_between neutral (from + n + 1) end) (rw parts-split at h.texts)

  pub left-parted : AreParted neutral (from + n + 1) end
  left-parted = record {
    order = omega (arith, part-fits neutral from end n le h.within is);
    within = h.within;
    bounded = h.bounded;
    texts = All-tail (λ part. IsTextPart neutral part.0 part.1) (from, from + n) (parts_between neutral (from + n + 1) end) (rw parts-split at h.texts);
  }

  pub texts-split : texts_between neutral from end ≡ part_text neutral from (from + n) ∷ texts_between neutral (from + n + 1) end
  texts-split = ap (part_texts neutral) parts-split

  -- the marks of all names once that of the first is there
  pub marked-first : (s t : Lists) → t ≡ record s { store = flat_forms (with_marks (part_text neutral from (from + n) ∷ []) (forms_in s.store)) } → with_marks (texts_between neutral (from + n + 1) end) (forms_in t.store) ≡ with_marks (texts_between neutral from end) (forms_in s.store)
  marked-first s t marked =
      let name = part_text neutral from (from + n) in
      let read : forms_in t.store ≡ with_marks (name ∷ []) (forms_in s.store) = ap (λ (w : Lists). forms_in w.store) marked ∙ forms_in-flat (with_marks (name ∷ []) (forms_in s.store)) in
      ap (with_marks _) read ∙ sym (marks-first name _ (forms_in s.store)) ∙ ap (λ ts. with_marks ts (forms_in s.store)) (sym (texts-split))

-- marks change the store and the index area alone
pub marked-alone : (old s t u : Lists) (cells : List Cell) → s ≡ record old { store = s.store; index_area = s.index_area } → t ≡ record s { index_area = t.index_area } → u ≡ record t { store = cells } → u ≡ record old { store = u.store; index_area = u.index_area }
marked-alone old s t u cells before kept marked =
    marked ∙ ap (λ (w : Lists). record w { store = cells }) kept ∙ ap (λ (w : Lists). record w { store = cells; index_area = t.index_area }) before
    ∙ ap (λ l. record old { store = l; index_area = t.index_area }) (sym (ap (λ (w : Lists). w.store) marked))
    ∙ ap (λ l. record old { store = u.store; index_area = l }) (sym (ap (λ (w : Lists). w.index_area) marked))

-- marks take no cell
length-marked : (b : Bool) (form : Form) → length (flat_form (marked_if b form)) ≡ length (flat_form form)
length-marked true form = refl
length-marked false form = refl

pub length-marks : (names : List Text) (forms : List Form) → length (flat_forms (with_marks names forms)) ≡ length (flat_forms forms)
length-marks names [] = refl
length-marks names (form ∷ forms) =
    omega (arith, length-cons form forms, length-cons (marked_if (is_among names form) form) (with_marks names forms), length-marked (is_among names form) form, length-marks names forms)
