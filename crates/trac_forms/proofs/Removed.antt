-- What removing forms by their names leaves of a `Work`.
use Rattle.trac_forms.proofs.Imports.{◌≡◌, ℕ, AreForms, List, length, take, sym, ap, refl, ◌∙◌, subst, arith, not, length-map, take_all, Text, Form, Lists, flat_forms, form_at, IsIndexed, forms_in, start_of, is_among, without_all, marked_if, with_marks, unmarked, IsFormed, IsMarkedFrom, forms_in-flat}
use Rattle.trac_forms.proofs.Imports.{stands, pointer-within, shown, IsStored}
use Rattle.trac_forms.proofs.Removals.{own-names, no-mark, unmarked-marks, IsStore-filter, cells-filter, length-marks}
use Rattle.trac_forms.proofs.Strings.{CanStand, used-stored, restored, shown-restored}

-- forms of a `Work` have no mark
pub none-marked : (s : Lists) (count last start : ℕ) → IsStored s count last start → IsMarkedFrom (forms_in s.store) (length (forms_in s.store)) (length s.store)
none-marked s count last start h =
    let forms = forms_in s.store in
    let all : take (length forms) forms ≡ forms = take_all (length forms) forms (omega arith) in
    record {
      place = record { within = omega arith; start_is = sym (ap (λ fs. length (flat_forms fs)) all ∙ ap length h.forms.whole) };
      none_before = λ j less.
          let f = stands forms s.store j (start_of forms j) h.forms.whole less refl in
          no-mark (form_at forms j).pointer (omega (arith, f.end, h.forms.bounded, pointer-within forms j h.sound.forms));
    }

-- the forms of a `Work` have distinct names
pub formed : (s : Lists) (count last start : ℕ) → IsStored s count last start → IsFormed s count last start
formed s count last start h =
    record {
      kept = record {
        has = record { forms = h.forms; count_is = h.count_is; index = h.index };
        place = record { within = omega (arith, h.last_is, h.count_is); start_is = h.start_is };
      };
      distinct = own-names (forms_in s.store) h.sound.forms;
    }

-- the forms of these names are marked, and then gone
module _ {s t : Lists} {count last start : ℕ} (names : List Text) (h : IsStored s count last start) (marks : t ≡ record s { store = flat_forms (with_marks names (forms_in s.store)); index_area = t.index_area }) where
  abbrev forms : List Form
  forms = forms_in s.store

  stored : t.store ≡ flat_forms (with_marks names (forms_in s.store))
  stored = ap (λ (w : Lists). w.store) marks

  read : forms_in t.store ≡ with_marks names (forms_in s.store)
  read = ap forms_in stored ∙ forms_in-flat (with_marks names forms)

  pub marks-forms : AreForms t.store
  marks-forms = record {
    whole = ap flat_forms read ∙ sym stored;
    bounded = omega (arith, ap length stored, length-marks names forms, ap length h.forms.whole, h.forms.bounded);
  }

  pub marks-count : count ≡ length (forms_in t.store)
  marks-count = h.count_is ∙ sym (ap length read ∙ length-map forms (λ form. marked_if (is_among names form) form))

  rest : unmarked (forms_in t.store) ≡ without_all names (forms_in s.store)
  rest = ap unmarked read ∙ unmarked-marks names forms h.sound.forms (omega (arith, ap length h.forms.whole, h.forms.bounded))

  module _ (u : Lists) (gone : u ≡ record t { store = flat_forms (unmarked (forms_in t.store)); index_area = u.index_area }) where
    removed : u ≡ record s { store = flat_forms (without_all names (forms_in s.store)); index_area = u.index_area }
    removed =
        gone ∙ ap (λ (w : Lists). record w { store = flat_forms (unmarked (forms_in t.store)); index_area = u.index_area }) marks
        ∙ ap (λ fs. record s { store = flat_forms fs; index_area = u.index_area }) rest

    pub removed-shown : shown u ≡ record (shown s) { forms = without_all names (forms_in s.store) }
    removed-shown = shown-restored u.index_area s u (without_all names forms) removed

    pub removed-stored : (left : ℕ) → left ≡ length (unmarked (forms_in t.store)) → IsIndexed u.index_area (unmarked (forms_in t.store)) → IsStored u left 0 0
    removed-stored left counted index =
        let stays = λ (form : Form). not (is_among names form) in
        let fewer = cells-filter stays forms in
        let used = used-stored s h.forms.whole in
        let can : CanStand s u.index_area (without_all names forms) = record {
          index = subst (IsIndexed u.index_area) rest index;
          distinct = IsStore-filter stays forms h.sound.forms;
          room = omega (arith, ap length h.forms.whole, fewer, used, h.sound.fits);
        } in
        restored h u.index_area u (without_all names forms) left (record { number = 0; start = 0 }) can removed (counted ∙ ap length rest) (record { within = omega arith; start_is = refl })
