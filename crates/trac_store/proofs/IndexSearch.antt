-- A search by the table.
use Rattle.trac_store.proofs.Imports.{◌≡◌, ◌≢◌, ℕ, zero, suc, ◌+◌, ◌-◌, ◌*◌, ◌/◌, ◌<◌, ◌≤◌, true, false, List, [], ◌∷◌, length, map, set, take, get_or, Bool, inl, inr, if◌then◌else◌, nat_le, refl, subst, sym, ap, ◌∙◌, arith, ⊎_elim, bit_and, and_le_r, false≢true, cases_lt, length-map}
use Rattle.trac_store.proofs.Imports.{length-append, length-set, get_or-map, Text, Form, NoneNamed, Cell, Byte, Head, seen, Lists, used, reserved, flat_form, flat_forms, name_at, form_at, start_of, IsIndexed, IsKept, hash, quarter, slots, slot, start_place, cell_at, is_blank, IsIndex}
use Rattle.trac_store.proofs.TableChanges.{index-renamed, numbered}

pub NoneNamed-from : (name : Text) (forms : List Form) → ((k : ℕ) → k < length forms → name_at forms k ≢ name) → NoneNamed name forms
NoneNamed-from name [] h = tt
NoneNamed-from name (form ∷ forms) h = (λ e. h 0 (omega arith) e, NoneNamed-from name forms (λ k within e. h (suc k) (omega arith) e))

module _ (table : List Cell) (forms : List Form) (name : Text) (index : IsIndex table forms) (i : ℕ) (none : (j k : ℕ) → j < i → k < length forms → name_at forms k ≡ name → cell_at table (slot table (hash name) j) ≢ Head k) where
  -- a blank slot ends the search
  pub none-at_blank : is_blank (cell_at table (slot table (hash name) i)) ≡ true → NoneNamed name forms
  none-at_blank blank =
      NoneNamed-from name forms (λ k within named.
      let r = index.all k within (λ e. absurd (omega (arith, e, within))) in
      let after = r.1.0 in
      let entry = r.1.1 in
      let there : r.0 ≡ slot table (hash name) after = entry.reached.slot_is ∙ ap (λ t. slot table (hash t) after) named in
      let held : cell_at table (slot table (hash name) after) ≡ Head k = ap (cell_at table) (sym there) ∙ entry.held in
      ⊎_elim
      (λ below. none after k below within named held)
      (λ past. ⊎_elim
      (λ less. false≢true (sym (ap (λ t. is_blank (cell_at table (slot table (hash t) i))) (sym named) ∙ entry.reached.before i less) ∙ blank))
      (λ more. let e : after ≡ i = omega arith in false≢true (sym (ap is_blank (rw e at held)) ∙ blank))
      (cases_lt i after))
      (cases_lt after i))

  -- a search that has looked at all slots ends with none
  pub none-at_end : slots table ≤ i → NoneNamed name forms
  none-at_end past =
      NoneNamed-from name forms (λ k within named.
      let r = index.all k within (λ e. absurd (omega (arith, e, within))) in
      let after = r.1.0 in
      let entry = r.1.1 in
      let there : r.0 ≡ slot table (hash name) after = entry.reached.slot_is ∙ ap (λ t. slot table (hash t) after) named in
      none after k (omega (arith, past, entry.reached.within)) within named (ap (cell_at table) (sym there) ∙ entry.held))

pub slots_len : (table : List Cell) → slots (map seen table) ≡ 2 * (length table / 4)
slots_len table = ap (λ n. 2 * (n / 4)) (length-map table seen)

-- the slot as a slice of the table has it
module _ (table : List Cell) (first i : ℕ) (some : i < 2 * (length table / 4)) where
  pub slot-seen : slot (map seen table) first i ≡ bit_and (first + i) (2 * (length table / 4) - 1)
  slot-seen = ap (λ n. bit_and (first + i) (n - 1)) (slots_len table)

  pub slot-less : bit_and (first + i) (2 * (length table / 4) - 1) < 2 * (length table / 4)
  slot-less = omega (arith, some, and_le_r (first + i) (2 * (length table / 4) - 1))

  pub cell-seen : cell_at (map seen table) (slot (map seen table) first i) ≡ seen (get_or table (bit_and (first + i) (2 * (length table / 4) - 1)) (Byte 0))
  cell-seen = ap (cell_at (map seen table)) slot-seen ∙ get_or-map seen table (bit_and (first + i) (2 * (length table / 4) - 1)) (Byte 0) (Byte 0) (omega (arith, slot-less))

-- what is held in a slot is a form, and the table says where it begins
pub held-at : (table : List Cell) (forms : List Form) → IsIndex table forms → (s k : ℕ) → s < slots table → cell_at table s ≡ Head k → (k < length forms) × (cell_at table (start_place table k) ≡ Head (start_of forms k)) × (k < quarter table)
held-at table forms index s k less is =
    let h = index.only s k less is in
    let e = index.all k h.within h.there in
    (h.within, e.1.1.begins, omega (arith, h.within, index.overflow))

-- an index area that is kept or let go
pub index-kept : (was now : List Cell) (forms : List Form) → IsKept was now → IsIndexed was forms → IsIndexed now forms
index-kept was now forms kept h =
    ⊎_elim (λ e. subst (λ table. IsIndexed table forms) (sym e) h) (λ e. λ some. absurd (omega (arith, some, ap length e))) kept

kept-if : (b : Bool) (xs : List Cell) → IsKept xs (if b then xs else [])
kept-if true xs = inl refl
kept-if false xs = inr refl

pub reserved-kept : (n : ℕ) (s : Lists) → IsKept s.index_area (reserved n s).index_area
reserved-kept n s = kept-if (nat_le (used s + n + length s.index_area) s.room) s.index_area

-- another form of the same name and length at place k
pub name-set : (new : Form) (forms : List Form) (k j : ℕ) → new.name ≡ (form_at forms k).name → name_at (set forms k new) j ≡ name_at forms j
name-set new [] k j named = refl
name-set new (form ∷ forms) zero zero named = named
name-set new (form ∷ forms) zero (suc j) named = refl
name-set new (form ∷ forms) (suc k) zero named = refl
name-set new (form ∷ forms) (suc k) (suc j) named = name-set new forms k j named

pub same_start : (new : Form) (forms : List Form) (k j : ℕ) → length (flat_form new) ≡ length (flat_form (form_at forms k)) → start_of (set forms k new) j ≡ start_of forms j
same_start new [] k j long = refl
same_start new (form ∷ forms) zero zero long = refl
same_start new (form ∷ forms) (suc k) zero long = refl
same_start new (form ∷ forms) zero (suc j) long =
    omega (arith, long, length-append (flat_form new) (flat_forms (take j forms)), length-append (flat_form form) (flat_forms (take j forms)))
same_start new (form ∷ forms) (suc k) (suc j) long =
    omega (arith, same_start new forms k j long, length-append (flat_form form) (flat_forms (take j (set forms k new))), length-append (flat_form form) (flat_forms (take j forms)))

pub index-replaced : (forms : List Form) (k : ℕ) (new : Form) (table : List Cell) → new.name ≡ (form_at forms k).name → length (flat_form new) ≡ length (flat_form (form_at forms k)) → IsIndexed table forms → IsIndexed table (set forms k new)
index-replaced forms k new table named long h = λ some.
    let now = set forms k new in
    index-renamed table (numbered forms) (numbered now) (length-set forms k new) (λ j _. (name-set new forms k j named, same_start new forms k j long)) (h some)

-- form k with another pointer
pub index-pointer : (forms : List Form) (k p : ℕ) (table : List Cell) → IsIndexed table forms → IsIndexed table (set forms k (record (form_at forms k) { pointer = p }))
index-pointer forms k p table h =
    index-replaced forms k (record (form_at forms k) { pointer = p }) table refl refl h
