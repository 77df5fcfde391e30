-- The table of the forms of a store, as they come and go.
use Rattle.trac_forms.proofs.Imports.{◌≡◌, ◌≢◌, ℕ, zero, suc, ◌+◌, ◌-◌, ◌<◌, ◌≤◌, true, false, List, [], ◌∷◌, length, set, take, if◌then◌else◌, refl, sym, ap, ◌∙◌, arith, subst, nat_lt, nat_le, remove, lt-ltb, le-ltb, ltb-true, ltb-false, lt-leb, leb-true, leb-false, false≢true, get_or-take}
use Rattle.trac_forms.proofs.Imports.{take-take, length-take-le, length-set, length-remove, get_or-remove_below, get_or-remove_above, sum_by-cons, Text, Form, form_cells, cells, Cell, Comma, Head, flat_forms, name_at, form_at, start_of, hash, quarter, slots, cell_at, home_place, is_open, number_of}
use Rattle.trac_forms.proofs.Imports.{home_in, start_in, buried, forward, earlier, started, IsReached, IsIndexBut, IsIndex, IsOpenFor, with_entry, Bool, take-set-le}
use Rattle.trac_store.specs.Stored.{IsLocated}
use Rattle.trac_store.proofs.TableChanges.{Numbered, numbered, index-put, index-bury, index-begin, index-as, index-renamed, reached-within, head-same}
use Rattle.trac_store.proofs.FlatLemmas.{length-flat}
use Rattle.trac_store.proofs.IndexSearch.{name-set}

pub if-below : {A : Type 0} (i g : ℕ) (a b : A) → i < g → (if nat_lt i g then a else b) ≡ a
if-below i g a b less = ap (λ t. if t then a else b) (lt-ltb i g less)

pub if-past : {A : Type 0} (i g : ℕ) (a b : A) → g ≤ i → (if nat_lt i g then a else b) ≡ b
if-past i g a b past = ap (λ t. if t then a else b) (le-ltb i g past)

-- a condition taken both ways
if-is : {A : Type 0} (b : Bool) (x y z : A) → (b ≡ true → x ≡ z) → (b ≡ false → y ≡ z) → (if b then x else y) ≡ z
if-is true x y z then_is else_is = then_is refl
if-is false x y z then_is else_is = else_is refl

-- a bound that is one higher changes the answer for that number alone
if-next : {A : Type 0} (g i : ℕ) (a b : A) → i ≢ g → (if nat_lt i (g + 1) then a else b) ≡ (if nat_lt i g then a else b)
if-next g i a b differs =
    sym (if-is (nat_lt i g) a b _ (λ e. sym (if-below i (g + 1) a b (omega (arith, ltb-true i g e)))) (λ e. sym (if-past i (g + 1) a b (omega (arith, differs, ltb-false i g e)))))

-- the first forms are named as they were, and begin where they did
front-same : (forms : List Form) (k j : ℕ) → j < k → (name_at (take k forms) j ≡ name_at forms j) × (start_of (take k forms) j ≡ start_of forms j)
front-same forms k j less = (
  ap (λ (f : Form). f.name) (get_or-take k forms j (record { name = []; body = []; pointer = 0 }) less),
  ap (λ fs. length (flat_forms fs)) (take-take j k forms (omega (arith, less))),
)

-- the table of the first forms
pub index-front : (table : List Cell) (forms : List Form) (k : ℕ) → k ≤ length forms → IsIndex table (take k forms) → IsIndexBut table k k (name_at forms) (start_of forms)
index-front table forms k within index =
    let front = take k forms in
    index-renamed table (numbered front) (record (numbered forms) { count = k }) (sym (length-take-le k forms within)) (λ j less. (let same = front-same forms k j less in (sym same.0, sym same.1))) index

pub front-index : (table : List Cell) (forms : List Form) (k : ℕ) → k ≤ length forms → IsIndexBut table k k (name_at forms) (start_of forms) → IsIndex table (take k forms)
front-index table forms k within index =
    let front = take k forms in
    let size = length-take-le k forms within in
    index-renamed table (record (numbered forms) { count = k }) (numbered front) size (λ j less. front-same forms k j (omega (arith, size, less))) index

open-head : (cell : Cell) (k : ℕ) → is_open cell ≡ true → cell ≡ Head k → ⊥
open-head cell k free is = false≢true (sym (ap is_open is) ∙ free)

-- one form more
pub index-next : (table : List Cell) (forms : List Form) (k s start : ℕ) → IsLocated forms k start → IsIndex table (take k forms) → k < quarter table → IsOpenFor table (hash (name_at forms k)) s → IsIndex (with_entry table s k start) (take (k + 1) forms)
index-next table forms k s start located index overflow place =
    let within = located.within in
    let begins = located.start_is in
    let front = index-front table forms k (omega (arith, within)) index in
    let put = index-put table (record (numbered forms) { count = k }) (record (numbered forms) { count = k + 1 }) k s (k + 1) front (omega arith) (λ e. absurd (omega (arith, e))) (omega (arith, overflow))
    (λ j less there differs. (omega (arith, less, differs), refl, refl))
    (λ j less there other. (omega (arith, less), λ e. absurd (omega (arith, e, less))))
    (λ j less there differs is. open-head (cell_at table s) j place.1.free is)
    place.0 place.1.reached in
    front-index (with_entry table s k start) forms (k + 1) (omega (arith, within)) (subst (λ b. IsIndexBut (with_entry table s k b) (k + 1) (k + 1) (name_at forms) (start_of forms)) (sym begins) put)

-- the table without the form at a place, whose slot is known
module _ (table : List Cell) (n k : ℕ) (name : ℕ → Text) (start : ℕ → ℕ) (index : IsIndexBut table n n name start) (within : k < n) where
  pub home-within : home_in table k < slots table
  home-within =
      let e = index.all k within (λ e. absurd (omega (arith, e, within))) in
      let home : home_in table k ≡ e.0 = ap number_of e.1.1.home in
      omega (arith, home, reached-within table (hash (name k)) e.0 e.1.0 e.1.1.reached)

  pub index-buried : IsIndexBut (buried table k) n k name start
  index-buried =
      let e = index.all k within (λ e. absurd (omega (arith, e, within))) in
      let home : home_in table k ≡ e.0 = ap number_of e.1.1.home in
      subst (λ s. IsIndexBut (set table s Comma) n k name start) (sym home) (index-bury table (record { count = n; name = name; start = start }) k e.0 e.1.0 index within e.1.1)

-- the table of the first forms without the last of them
pub index-cut : (table : List Cell) (forms : List Form) (k : ℕ) → k < length forms → IsIndex table (take (k + 1) forms) → IsIndex (buried table k) (take k forms)
index-cut table forms k within index =
    let front = index-front table forms (k + 1) (omega (arith, within)) index in
    let cut = index-buried table (k + 1) k (name_at forms) (start_of forms) front (omega arith) in
    front-index (buried table k) forms k (omega (arith, within))
    (index-as (buried table k) (record (numbered forms) { count = k + 1 }) (record (numbered forms) { count = k }) k k (omega (arith, cut.overflow)) (λ j less there. (omega (arith, less), there, refl, refl)) (λ j less there. (omega (arith, less, there), there)) cut)

-- where forms begin once one is removed
start-cells : (forms : List Form) (j : ℕ) → start_of forms j ≡ cells (take j forms)
start-cells forms j = length-flat (take j forms)

cells-removed : (forms : List Form) (k j : ℕ) → k ≤ j → k < length forms → cells (take j (remove forms k)) + form_cells (form_at forms k) ≡ cells (take (suc j) forms)
cells-removed [] k j order within = absurd (omega (arith, within))
cells-removed (form ∷ forms) zero j order within = omega (arith, sum_by-cons form_cells form (take j forms))
cells-removed (form ∷ forms) (suc k) zero order within = absurd (omega (arith, order))
cells-removed (form ∷ forms) (suc k) (suc j) order within =
    omega (arith, cells-removed forms k j (omega (arith, order)) (omega (arith, within)), sum_by-cons form_cells form (take j (remove forms k)), sum_by-cons form_cells form (take (suc j) forms))

pub start-removed : (forms : List Form) (k j : ℕ) → k ≤ j → k < length forms → start_of (remove forms k) j + form_cells (form_at forms k) ≡ start_of forms (j + 1)
start-removed forms k j order within =
    let e : j + 1 ≡ suc j = omega arith in
    omega (arith, start-cells (remove forms k) j, start-cells forms (j + 1), cells-removed forms k j order within, ap (λ n. cells (take n forms)) e)

pub take-removed : (forms : List Form) (k j : ℕ) → j ≤ k → k < length forms → take j (remove forms k) ≡ take j forms
take-removed [] k j order within = absurd (omega (arith, within))
take-removed (form ∷ forms) k zero order within = refl
take-removed (form ∷ forms) zero (suc j) order within = absurd (omega (arith, order))
take-removed (form ∷ forms) (suc k) (suc j) order within = ap (λ fs. form ∷ fs) (take-removed forms k j (omega (arith, order)) (omega (arith, within)))

-- the names and starts of the forms while those behind form k come forward: up to the gap they have
abbrev pub names_now : List Form → ℕ → ℕ → ℕ → Text
names_now forms k gap = λ j. if nat_lt j gap then name_at (remove forms k) j else name_at forms j

abbrev pub starts_now : List Form → ℕ → ℕ → ℕ → ℕ
starts_now forms k gap = λ j. if nat_lt j gap then start_of (remove forms k) j else start_of forms j

abbrev numbered_now : List Form → ℕ → ℕ → Numbered
numbered_now forms k gap = record { count = length forms; name = names_now forms k gap; start = starts_now forms k gap }

module _ (forms : List Form) (k : ℕ) (within : k < length forms) where
  -- nothing has come forward yet
  pub index-gap : (table : List Cell) → IsIndexBut table (length forms) k (name_at forms) (start_of forms) → IsIndexBut table (length forms) k (names_now forms k k) (starts_now forms k k)
  index-gap table index =
      index-as table (numbered forms) (numbered_now forms k k) k k index.overflow
      (λ j less there. (less, there, names j, starts j)) (λ j less there. (less, there)) index
    where
      names : (j : ℕ) → names_now forms k k j ≡ name_at forms j
      names j =
          if-is (nat_lt j k) _ _ (name_at forms j) (λ e. ap (λ (f : Form). f.name) (get_or-remove_below forms k (record { name = []; body = []; pointer = 0 }) j (ltb-true j k e) within)) (λ _. refl)

      starts : (j : ℕ) → starts_now forms k k j ≡ start_of forms j
      starts j =
          if-is (nat_lt j k) _ _ (start_of forms j) (λ e. ap (λ fs. length (flat_forms fs)) (take-removed forms k j (omega (arith, ltb-true j k e)) within)) (λ _. refl)

  -- what the table says of the form behind the gap
  pub next-home : (table : List Cell) (gap : ℕ) → gap + 1 < length forms → IsIndexBut table (length forms) gap (names_now forms k gap) (starts_now forms k gap) → home_in table (gap + 1) < slots table
  next-home table gap inside index =
      let e = index.all (gap + 1) inside (λ e. absurd (omega (arith, e))) in
      let home : home_in table (gap + 1) ≡ e.0 = ap number_of e.1.1.home in
      omega (arith, home, reached-within table (hash (names_now forms k gap (gap + 1))) e.0 e.1.0 e.1.1.reached)

  pub next-start : (table : List Cell) (gap : ℕ) → k ≤ gap → gap + 1 < length forms → IsIndexBut table (length forms) gap (names_now forms k gap) (starts_now forms k gap) → start_in table (gap + 1) ≡ start_of (remove forms k) gap + form_cells (form_at forms k)
  next-start table gap order inside index =
      let e = index.all (gap + 1) inside (λ e. absurd (omega (arith, e))) in
      ap number_of e.1.1.begins ∙ if-past (gap + 1) gap (start_of (remove forms k) (gap + 1)) (start_of forms (gap + 1)) (omega arith) ∙ sym (start-removed forms k gap order within)

  -- one form more has come forward
  pub index-forward : (table : List Cell) (gap cells : ℕ) → k ≤ gap → gap + 1 < length forms → cells ≡ form_cells (form_at forms k) → IsIndexBut table (length forms) gap (names_now forms k gap) (starts_now forms k gap) → IsIndexBut (forward table (gap + 1) cells) (length forms) (gap + 1) (names_now forms k (gap + 1)) (starts_now forms k (gap + 1))
  index-forward table gap cells order inside cells_is index =
      let e = index.all (gap + 1) inside (λ e. absurd (omega (arith, e))) in
      let s = e.0 in
      let entry = e.1.1 in
      let home : home_in table (gap + 1) ≡ s = ap number_of entry.home in
      let name : names_now forms k (gap + 1) gap ≡ names_now forms k gap (gap + 1) =
      if-below gap (gap + 1) (name_at (remove forms k) gap) (name_at forms gap) (omega arith)
      ∙ ap (λ (f : Form). f.name) (get_or-remove_above forms k (record { name = []; body = []; pointer = 0 }) gap order within)
      ∙ sym (if-past (gap + 1) gap (name_at (remove forms k) (gap + 1)) (name_at forms (gap + 1)) (omega arith)) in
      let begins : start_in table (gap + 1) - cells ≡ starts_now forms k (gap + 1) gap =
      let b = if-below gap (gap + 1) (start_of (remove forms k) gap) (start_of forms gap) (omega arith) in
      omega (arith, b, cells_is, next-start table gap order inside index) in
      let reached = subst (λ t. IsReached table (hash t) s e.1.0) (sym name) entry.reached in
      let put = index-put table (numbered_now forms k gap) (numbered_now forms k (gap + 1)) gap s (gap + 1) index (omega (arith, inside)) (λ e. absurd (omega (arith, e))) index.overflow
      (λ j less there differs. (less, same_name gap j there differs, same_start gap j there differs))
      (λ j less there other. (less, λ f. other (ap (λ i. cell_at table (home_place table i)) f ∙ entry.home)))
      (λ j less there differs is. there (head-same j (gap + 1) (sym is ∙ entry.held)))
      e.1.0 reached in
      let place : gap + 1 - 1 ≡ gap = omega arith in
      let now : forward table (gap + 1) cells ≡ with_entry table s gap (starts_now forms k (gap + 1) gap) =
      ap (λ h. with_entry table h (gap + 1 - 1) (start_in table (gap + 1) - cells)) home
      ∙ ap (λ g. with_entry table s g (start_in table (gap + 1) - cells)) place
      ∙ ap (λ b. with_entry table s gap b) begins in
      subst (λ t. IsIndexBut t (length forms) (gap + 1) (names_now forms k (gap + 1)) (starts_now forms k (gap + 1))) (sym now) put
    where
      same_name : (gap j : ℕ) → j ≢ gap + 1 → j ≢ gap → names_now forms k (gap + 1) j ≡ names_now forms k gap j
      same_name gap j there differs = if-next gap j (name_at (remove forms k) j) (name_at forms j) differs

      same_start : (gap j : ℕ) → j ≢ gap + 1 → j ≢ gap → starts_now forms k (gap + 1) j ≡ starts_now forms k gap j
      same_start gap j there differs = if-next gap j (start_of (remove forms k) j) (start_of forms j) differs

  -- all have come forward
  pub index-removed : (table : List Cell) (gap : ℕ) → gap + 1 ≡ length forms → IsIndexBut table (length forms) gap (names_now forms k gap) (starts_now forms k gap) → IsIndex table (remove forms k)
  index-removed table gap all index =
      let size = length-remove forms k within in
      index-as table (numbered_now forms k gap) (numbered (remove forms k)) gap (length (remove forms k)) (omega (arith, size, index.overflow))
      (λ j less there. (
        omega (arith, size, less),
        λ e. absurd (omega (arith, e, all, size, less)),
        sym (if-below j gap (name_at (remove forms k) j) (name_at forms j) (omega (arith, all, size, less))),
        sym (if-below j gap (start_of (remove forms k) j) (start_of forms j) (omega (arith, all, size, less))),
      ))
      (λ j less there. (omega (arith, all, size, less, there), λ e. absurd (omega (arith, all, size, less, e, there)))) index

-- the forms behind one begin earlier
module _ (k n less : ℕ) (name : ℕ → Text) (start : ℕ → ℕ) where
  started-none : (j : ℕ) → started k (k + 1) less start j ≡ start j
  started-none j =
      if-is (nat_le j k) (start j) _ (start j) (λ _. refl) (λ e. if-past j (k + 1) (start j - less) (start j) (omega (arith, leb-false j k e)))

  pub index-started : (table : List Cell) → IsIndexBut table n n name start → IsIndexBut table n n name (started k (k + 1) less start)
  index-started table index =
      index-renamed table (record { count = n; name = name; start = start }) (record { count = n; name = name; start = started k (k + 1) less start }) refl (λ j _. (refl, started-none j)) index

  -- form `next` begins earlier too
  started-here : (next : ℕ) → k < next → started k (next + 1) less start next ≡ start next - less
  started-here next behind =
      ap (λ t. if t then start next else (if nat_lt next (next + 1) then start next - less else start next)) (lt-leb next k behind)
      ∙ if-below next (next + 1) (start next - less) (start next) (omega arith)

  started-not : (next j : ℕ) → next ≤ j → k < j → started k next less start j ≡ start j
  started-not next j past behind =
      ap (λ t. if t then start j else (if nat_lt j next then start j - less else start j)) (lt-leb j k behind)
      ∙ if-past j next (start j - less) (start j) past

  started-other : (next j : ℕ) → j ≢ next → started k (next + 1) less start j ≡ started k next less start j
  started-other next j differs = ap (λ v. if nat_le j k then start j else v) (if-next next j (start j - less) (start j) differs)

  pub start-there : (table : List Cell) (next : ℕ) → k < next → next < n → IsIndexBut table n n name (started k next less start) → start_in table next ≡ start next
  start-there table next behind inside index =
      let e = index.all next inside (λ e. absurd (omega (arith, e, inside))) in
      ap number_of e.1.1.begins ∙ started-not next next (omega arith) behind

  pub index-earlier : (table : List Cell) (next : ℕ) → k < next → next < n → IsIndexBut table n n name (started k next less start) → IsIndexBut (earlier table next less) n n name (started k (next + 1) less start)
  index-earlier table next behind inside index =
      index-begin table (record { count = n; name = name; start = started k next less start }) next (start_in table next - less) (started k (next + 1) less start) index inside
      (started-here next behind ∙ ap (λ b. b - less) (sym (start-there table next behind inside index)))
      (λ j within differs. started-other next j differs)

-- another form of the same name at place k, shorter by `less` cells
module _ (forms : List Form) (k : ℕ) (new : Form) (within : k < length forms) (named : new.name ≡ name_at forms k) (less : ℕ) (shorter : form_cells new + less ≡ form_cells (form_at forms k)) where
  start-before : (j : ℕ) → j ≤ k → start_of (set forms k new) j ≡ start_of forms j
  start-before j order = ap (λ fs. length (flat_forms fs)) (take-set-le j forms k new order)

  cells-behind : (fs : List Form) (i j : ℕ) → i < j → i < length fs → cells (take j (set fs i new)) + form_cells (form_at fs i) ≡ cells (take j fs) + form_cells new
  cells-behind [] i j order inside = absurd (omega (arith, inside))
  cells-behind (form ∷ fs) i zero order inside = absurd (omega (arith, order))
  cells-behind (form ∷ fs) zero (suc j) order inside = omega (arith, sum_by-cons form_cells form (take j fs), sum_by-cons form_cells new (take j fs))
  cells-behind (form ∷ fs) (suc i) (suc j) order inside =
      omega (arith, cells-behind fs i j (omega (arith, order)) (omega (arith, inside)), sum_by-cons form_cells form (take j (set fs i new)), sum_by-cons form_cells form (take j fs))

  start-set : (count j : ℕ) → j < count → start_of (set forms k new) j ≡ started k count less (start_of forms) j
  start-set count j inside =
      sym (if-is (nat_le j k) _ _ (start_of (set forms k new) j) (λ e. sym (start-before j (leb-true j k e)))
      (λ e.
      let behind = cells-behind forms k j (leb-false j k e) within in
      if-below j count (start_of forms j - less) (start_of forms j) inside ∙ omega (arith, behind, shorter, start-cells (set forms k new) j, start-cells forms j)))

  pub index-set : (table : List Cell) (count : ℕ) → count ≡ length forms → IsIndexBut table count count (name_at forms) (started k count less (start_of forms)) → IsIndex table (set forms k new)
  index-set table count all index =
      let now = set forms k new in
      let size : length now ≡ count = omega (arith, length-set forms k new, all) in
      index-renamed table (record { count = count; name = name_at forms; start = started k count less (start_of forms) }) (numbered now) size (λ j inside. (name-set new forms k j named, start-set count j (omega (arith, size, inside)))) index

-- the forms behind form k begin behind its cells
pub front-cells : (forms : List Form) (k j : ℕ) → k < length forms → k < j → form_cells (form_at forms k) ≤ start_of forms j
front-cells forms k j within behind =
    let e : j - 1 + 1 ≡ j = omega (arith, behind) in
    omega (arith, start-removed forms k (j - 1) (omega (arith, behind)) within, ap (start_of forms) e)

-- forms that begin no earlier
pub index-unmoved : (k count cells : ℕ) (name : ℕ → Text) (start : ℕ → ℕ) (table : List Cell) → cells ≡ 0 → IsIndexBut table count count name start → IsIndexBut table count count name (started k count cells start)
index-unmoved k count cells name start table none index =
    index-renamed table (record { count = count; name = name; start = start }) (record { count = count; name = name; start = started k count cells start }) refl (λ j _. (refl, same j)) index
  where
    same : (j : ℕ) → started k count cells start j ≡ start j
    same j =
        let least : start j - cells ≡ start j = omega (arith, none) in
        if-is (nat_le j k) (start j) _ (start j) (λ _. refl) (λ _. if-is (nat_lt j count) _ (start j) (start j) (λ _. least) (λ _. refl))
