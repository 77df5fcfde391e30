-- Changes of a table of forms.
use Rattle.trac_store.proofs.Imports.{◌≡◌, ◌≢◌, ℕ, ◌+◌, ◌-◌, ◌*◌, ◌/◌, ◌<◌, ◌≤◌, false, List, length, set, sym, ap, ◌∙◌, arith, ⊎_elim, subst, bit_and, and_le_r, cases_eq, length-set, get_or-set_same, get_or-set_other, Text, Cell, Byte, Comma, Head, hash, quarter, slots, slot}
use Rattle.trac_store.proofs.Imports.{Form, name_at, start_of, cell_at, start_place, home_place, is_blank, IsReached, IsEntry, HasEntry, IsIndexBut, with_entry, begins, reads}

-- a slot that is looked at is one of the slots
pub slot-within : (table : List Cell) (number i : ℕ) → 0 < slots table → slot table number i < slots table
slot-within table number i some = omega (arith, and_le_r (number + i) (slots table - 1))

pub reached-within : (table : List Cell) (number s after : ℕ) → IsReached table number s after → s < slots table
reached-within table number s after r = omega (arith, r.slot_is, r.within, slot-within table number after (omega (arith, r.within)))

pub head-same : (a b : ℕ) → Head a ≡ Head b → a ≡ b
head-same a b e = cc

-- numbered forms: how many they are, the name of each, and where each begins
pub record Numbered : Type 0 where
  pub count : ℕ
  pub name : ℕ → Text
  pub start : ℕ → ℕ

abbrev pub numbered : List Form → Numbered
numbered forms = record { count = length forms; name = name_at forms; start = start_of forms }

-- an entry of a changed table, at the places that it had before
record IsEntryThen (table now : List Cell) (name : Text) (start k s after : ℕ) : Type 0 where
  reached : IsReached table (hash name) s after
  held : cell_at now s ≡ Head k
  begins : cell_at now (start_place table k) ≡ Head start
  home : cell_at now (home_place table k) ≡ Head s

abbrev HasEntryThen : List Cell → List Cell → Text → ℕ → ℕ → Type 0
HasEntryThen table now name start k = (s : ℕ) × ((after : ℕ) × IsEntryThen table now name start k s after)

-- a table of as many cells whose slots are blank in no further place
module _ (table now : List Cell) (long : length now ≡ length table) (full : (x : ℕ) → x < slots table → is_blank (cell_at table x) ≡ false → is_blank (cell_at now x) ≡ false) where
  slots-same : slots now ≡ slots table
  slots-same = ap (λ n. 2 * (n / 4)) long

  slot-same : (number i : ℕ) → slot now number i ≡ slot table number i
  slot-same number i = ap (λ n. bit_and (number + i) (n - 1)) slots-same

  home-same : (k : ℕ) → home_place now k ≡ home_place table k
  home-same k = ap (λ n. 2 * (n / 4) + n / 4 + k) long

  reached-now : (number s after : ℕ) → IsReached table number s after → IsReached now number s after
  reached-now number s after r = record {
    within = omega (arith, r.within, slots-same);
    slot_is = r.slot_is ∙ sym (slot-same number after);
    before = λ i less.
        ap (λ x. is_blank (cell_at now x)) (slot-same number i)
        ∙ full (slot table number i) (slot-within table number i (omega (arith, r.within))) (r.before i less);
  }

  -- the changed table is one of the forms if each has its entry, and each number in a slot is that of one
  index-now : (n gap : ℕ) (name : ℕ → Text) (start : ℕ → ℕ) → n ≤ quarter table → ((k : ℕ) → k < n → k ≢ gap → HasEntryThen table now (name k) (start k) k) → ((s k : ℕ) → s < slots table → cell_at now s ≡ Head k → (k < n) × (k ≢ gap) × (cell_at now (home_place table k) ≡ Head s)) → IsIndexBut now n gap name start
  index-now n gap name start fits all only = record {
    overflow = omega (arith, fits, ap (λ n. n / 4) long);
    all = λ k within there.
        let h = all k within there in
        let e = h.1.1 in
        let entry : IsEntry now (name k) (start k) k h.0 h.1.0 = record {
          reached = reached-now (hash (name k)) h.0 h.1.0 e.reached;
          held = e.held;
          begins = ap (λ n. cell_at now (n + k)) slots-same ∙ e.begins;
          home = ap (cell_at now) (home-same k) ∙ e.home;
        } in
        (h.0, (h.1.0, entry));
    only = λ s k s_in is.
        let h = only s k (omega (arith, s_in, slots-same)) is in
        record { within = h.0; there = h.1; home = ap (cell_at now) (home-same k) ∙ h.2 };
  }

-- the cells of a table with one entry more
module _ (table : List Cell) (s k start : ℕ) (s_in : s < slots table) (k_in : k < quarter table) where
  long : length (with_entry table s k start) ≡ length table
  long = simp length-set

  entry-slot : cell_at (with_entry table s k start) s ≡ Head k
  entry-slot = grind (arith, reads)

  entry-start : cell_at (with_entry table s k start) (start_place table k) ≡ Head start
  entry-start = grind (arith, reads)

  entry-home : cell_at (with_entry table s k start) (home_place table k) ≡ Head s
  entry-home = grind (arith, reads)

  -- a slot is changed only where the entry is
  entry-other_slot : (x : ℕ) → x < slots table → x ≢ s → cell_at (with_entry table s k start) x ≡ cell_at table x
  entry-other_slot x x_in differs = grind (arith, reads)

  entry-other_start : (j : ℕ) → j < quarter table → j ≢ k → cell_at (with_entry table s k start) (start_place table j) ≡ cell_at table (start_place table j)
  entry-other_start j j_in differs = grind (arith, reads)

  entry-other_home : (j : ℕ) → j < quarter table → j ≢ k → cell_at (with_entry table s k start) (home_place table j) ≡ cell_at table (home_place table j)
  entry-other_home j j_in differs = grind (arith, reads)

  entry-full : (x : ℕ) → x < slots table → is_blank (cell_at table x) ≡ false → is_blank (cell_at (with_entry table s k start) x) ≡ false
  entry-full x x_in full =
      ⊎_elim (λ e. ap (λ y. is_blank (cell_at (with_entry table s k start) y)) e ∙ ap is_blank entry-slot) (λ differs. ap is_blank (entry-other_slot x x_in differs) ∙ full) (cases_eq x s)

-- an entry at the gap, in a slot that no other form has then; form k may leave its own slot for that
module _ (table : List Cell) (was next : Numbered) (g s g2 : ℕ) (index : IsIndexBut table was.count g was.name was.start) (g_in : g < next.count) (apart : g ≢ g2) (fits : next.count ≤ quarter table) (olds : (k : ℕ) → k < next.count → k ≢ g2 → k ≢ g → (k < was.count) × (next.name k ≡ was.name k) × (next.start k ≡ was.start k)) (news : (k : ℕ) → k < was.count → k ≢ g → cell_at table (home_place table k) ≢ Head s → (k < next.count) × (k ≢ g2)) (free : (k : ℕ) → k < next.count → k ≢ g2 → k ≢ g → cell_at table s ≢ Head k) (after : ℕ) (reached : IsReached table (hash (next.name g)) s after) where
  s_in : s < slots table
  s_in = reached-within table (hash (next.name g)) s after reached

  g_fits : g < quarter table
  g_fits = omega (arith, g_in, fits)

  abbrev now : List Cell
  now = with_entry table s g (next.start g)

  new_all : (k : ℕ) → k < next.count → k ≢ g2 → HasEntryThen table now (next.name k) (next.start k) k
  new_all k within there =
      ⊎_elim
      (λ e. subst (λ j. HasEntryThen table now (next.name j) (next.start j) j) (sym e) (s, (after, record { reached = reached; held = entry-slot table s g (next.start g) s_in g_fits; begins = entry-start table s g (next.start g) s_in g_fits; home = entry-home table s g (next.start g) s_in g_fits })))
      (λ differs.
      let o = olds k within there differs in
      let old = index.all k o.0 differs in
      let e = old.1.1 in
      let k_fits : k < quarter table = omega (arith, within, fits) in
      let apart2 : old.0 ≢ s = λ same. free k within there differs (ap (cell_at table) (sym same) ∙ e.held) in (
        old.0,
        (
          old.1.0,
          record {
            reached = subst (λ t. IsReached table (hash t) old.0 old.1.0) (sym o.1) e.reached;
            held = entry-other_slot table s g (next.start g) s_in g_fits old.0 (reached-within table (hash (was.name k)) old.0 old.1.0 e.reached) apart2 ∙ e.held;
            begins = entry-other_start table s g (next.start g) s_in g_fits k k_fits differs ∙ e.begins ∙ ap (λ b. Head b) (sym o.2);
            home = entry-other_home table s g (next.start g) s_in g_fits k k_fits differs ∙ e.home;
          },
        ),
      ))
      (cases_eq k g)

  new_only : (x k : ℕ) → x < slots table → cell_at now x ≡ Head k → (k < next.count) × (k ≢ g2) × (cell_at now (home_place table k) ≡ Head x)
  new_only x k x_in is =
      ⊎_elim
      (λ e.
      let same : k ≡ g = head-same k g (sym is ∙ ap (cell_at now) e ∙ entry-slot table s g (next.start g) s_in g_fits) in
      subst (λ j. (j < next.count) × (j ≢ g2) × (cell_at now (home_place table j) ≡ Head x)) (sym same) (g_in, apart, entry-home table s g (next.start g) s_in g_fits ∙ ap (λ n. Head n) (sym e)))
      (λ differs.
      let old = index.only x k x_in (sym (entry-other_slot table s g (next.start g) s_in g_fits x x_in differs) ∙ is) in
      let more = news k old.within old.there (λ e. differs (head-same x s (sym old.home ∙ e))) in
      (more.0, more.1, entry-other_home table s g (next.start g) s_in g_fits k (omega (arith, more.0, fits)) old.there ∙ old.home))
      (cases_eq x s)

  pub index-put : IsIndexBut (with_entry table s g (next.start g)) next.count g2 next.name next.start
  index-put =
      index-now table now (long table s g (next.start g) s_in g_fits) (entry-full table s g (next.start g) s_in g_fits) next.count g2 next.name next.start fits new_all new_only

-- the slot of a form is left to none
module _ (table : List Cell) (was : Numbered) (k s after : ℕ) (index : IsIndexBut table was.count was.count was.name was.start) (within : k < was.count) (entry : IsEntry table (was.name k) (was.start k) k s after) where
  slot_in : s < slots table
  slot_in = reached-within table (hash (was.name k)) s after entry.reached

  bury_other : (x : ℕ) → x ≢ s → cell_at (set table s Comma) x ≡ cell_at table x
  bury_other x differs = get_or-set_other table s x Comma (Byte 0) differs

  bury_same : cell_at (set table s Comma) s ≡ Comma
  bury_same = get_or-set_same table s Comma (Byte 0) (omega (arith, slot_in))

  bury_full : (x : ℕ) → x < slots table → is_blank (cell_at table x) ≡ false → is_blank (cell_at (set table s Comma) x) ≡ false
  bury_full x x_in full =
      ⊎_elim (λ e. ap (λ y. is_blank (cell_at (set table s Comma) y)) e ∙ ap is_blank bury_same) (λ differs. ap is_blank (bury_other x differs) ∙ full) (cases_eq x s)

  comma-head : (j : ℕ) → Comma ≡ Head j → ⊥
  comma-head j e = absurd cc

  pub index-bury : IsIndexBut (set table s Comma) was.count k was.name was.start
  index-bury =
      index-now table _ (length-set table s Comma) bury_full was.count k was.name was.start index.overflow
      (λ j less differs.
      let old = index.all j less (λ e. absurd (omega (arith, e, less))) in
      let e = old.1.1 in
      let apart : old.0 ≢ s = λ same. differs (head-same j k (sym e.held ∙ ap (cell_at table) same ∙ entry.held)) in (
        old.0,
        (
          old.1.0,
          record {
            reached = e.reached;
            held = bury_other old.0 apart ∙ e.held;
            begins = bury_other (start_place table j) (λ f. absurd (omega (arith, f, slot_in))) ∙ e.begins;
            home = bury_other (home_place table j) (λ f. absurd (omega (arith, f, slot_in))) ∙ e.home;
          },
        ),
      ))
      (λ x j x_in is. ⊎_elim
      (λ e. absurd (comma-head j (sym bury_same ∙ ap (cell_at (set table s Comma)) (sym e) ∙ is)))
      (λ differs.
      let old = index.only x j x_in (sym (bury_other x differs) ∙ is) in (
        old.within,
        λ f. differs (head-same x s (sym old.home ∙ ap (λ i. cell_at table (home_place table i)) f ∙ entry.home)),
        bury_other (home_place table j) (λ f. absurd (omega (arith, f, slot_in))) ∙ old.home,
      ))
      (cases_eq x s))

-- a form begins elsewhere
module _ (table : List Cell) (was : Numbered) (k begin : ℕ) (start : ℕ → ℕ) (index : IsIndexBut table was.count was.count was.name was.start) (within : k < was.count) (here : start k ≡ begin) (others : (j : ℕ) → j < was.count → j ≢ k → start j ≡ was.start j) where
  begin_other : (x : ℕ) → x ≢ start_place table k → cell_at (set table (start_place table k) (Head begin)) x ≡ cell_at table x
  begin_other x differs = get_or-set_other table (start_place table k) x (Head begin) (Byte 0) differs

  begin_same : cell_at (set table (start_place table k) (Head begin)) (start_place table k) ≡ Head begin
  begin_same = get_or-set_same table (start_place table k) (Head begin) (Byte 0) (omega (arith, within, index.overflow))

  begin_full : (x : ℕ) → x < slots table → is_blank (cell_at table x) ≡ false → is_blank (cell_at (set table (start_place table k) (Head begin)) x) ≡ false
  begin_full x x_in full = ap is_blank (begin_other x (λ e. absurd (omega (arith, e, x_in)))) ∙ full

  begin_home : (j : ℕ) → cell_at (set table (start_place table k) (Head begin)) (home_place table j) ≡ cell_at table (home_place table j)
  begin_home j = begin_other (home_place table j) (λ e. absurd (omega (arith, e, within, index.overflow)))

  begin_begins : (j : ℕ) → j < was.count → cell_at table (start_place table j) ≡ Head (was.start j) → cell_at (set table (start_place table k) (Head begin)) (start_place table j) ≡ Head (start j)
  begin_begins j less begins =
      ⊎_elim
      (λ e. ap (λ i. cell_at (set table (start_place table k) (Head begin)) (start_place table i)) e ∙ begin_same ∙ ap (λ n. Head n) (sym here ∙ ap start (sym e)))
      (λ differs. begin_other (start_place table j) (λ e. differs (omega (arith, e))) ∙ begins ∙ ap (λ n. Head n) (sym (others j less differs)))
      (cases_eq j k)

  pub index-begin : IsIndexBut (set table (start_place table k) (Head begin)) was.count was.count was.name start
  index-begin =
      index-now table _ (length-set table (start_place table k) (Head begin)) begin_full was.count was.count was.name start index.overflow
      (λ j less there.
      let old = index.all j less there in
      let e = old.1.1 in
      let s_in = reached-within table (hash (was.name j)) old.0 old.1.0 e.reached in (
        old.0,
        (
          old.1.0,
          record {
            reached = e.reached;
            held = begin_other old.0 (λ f. absurd (omega (arith, f, s_in))) ∙ e.held;
            begins = begin_begins j less e.begins;
            home = begin_home j ∙ e.home;
          },
        ),
      ))
      (λ x j x_in is.
      let old = index.only x j x_in (sym (begin_other x (λ e. absurd (omega (arith, e, x_in)))) ∙ is) in
      (old.within, old.there, begin_home j ∙ old.home))

-- the same forms, under other words; form g was left out, and form g2 is
pub index-as : (table : List Cell) (was now : Numbered) (g g2 : ℕ) → now.count ≤ quarter table → ((k : ℕ) → k < now.count → k ≢ g2 → (k < was.count) × (k ≢ g) × (now.name k ≡ was.name k) × (now.start k ≡ was.start k)) → ((k : ℕ) → k < was.count → k ≢ g → (k < now.count) × (k ≢ g2)) → IsIndexBut table was.count g was.name was.start → IsIndexBut table now.count g2 now.name now.start
index-as table was now g g2 fits olds news index = record {
  overflow = fits;
  all = λ k within there.
      let o = olds k within there in
      let old = index.all k o.0 o.1 in
      subst (λ b. HasEntry table (now.name k) b k) (sym o.3) (subst (λ t. HasEntry table t (was.start k) k) (sym o.2) old);
  only = λ s k s_in is.
      let old = index.only s k s_in is in
      let more = news k old.within old.there in
      record { within = more.0; there = more.1; home = old.home };
}

-- where no form is left out
pub index-renamed : (table : List Cell) (was now : Numbered) → now.count ≡ was.count → ((k : ℕ) → k < now.count → (now.name k ≡ was.name k) × (now.start k ≡ was.start k)) → IsIndexBut table was.count was.count was.name was.start → IsIndexBut table now.count now.count now.name now.start
index-renamed table was now size same index =
    index-as table was now was.count now.count (omega (arith, size, index.overflow))
    (λ k within there. (omega (arith, size, within), λ e. absurd (omega (arith, e, size, within)), (same k within).0, (same k within).1))
    (λ k within there. (omega (arith, size, within), λ e. absurd (omega (arith, e, size, within)))) index
