-- Where forms stand among the cells of a list of forms.
use Rattle.trac_store.proofs.Imports.{◌≡◌, ℕ, suc, ◌+◌, ◌-◌, ◌<◌, ◌≤◌, List, [], ◌∷◌, ◌++◌, length, take, drop, map, slice_range, slice_get, set, refl, sym, ap, ◌∙◌, arith, remove, slice_get_past, zero, append_assoc, append-nil, length-append, length-map, take-append-drop, drop_more, take_more}
use Rattle.trac_store.proofs.Imports.{take_at, drop_at, drop-drop, set_split, take-set, set-append_right, flat_map-append, Form, form_cells, Cell, Byte, Head, Lists, flat_text, flat_item, flat_form, flat_forms, form_at, start_of, head_number, head_at}
use Rattle.trac_store.proofs.FlatLemmas.{length-flat_form}

pub slice_get-drop : (n : ℕ) (cells : List Cell) (i : ℕ) → slice_get (drop n cells) i ≡ slice_get cells (n + i)
slice_get-drop zero cells i = ap (slice_get cells) (omega arith)
slice_get-drop (suc n) [] i = slice_get_past [] i (omega arith) ∙ sym (slice_get_past [] (suc n + i) (omega arith))
slice_get-drop (suc n) (cell ∷ cells) i =
    let e : suc (n + i) ≡ suc n + i = omega arith in
    slice_get-drop n cells i ∙ ap (slice_get (cell ∷ cells)) e

-- how the cells of a form stand in a store, from place `at` on
pub record Stands (forms : List Form) (store : List Cell) (k at : ℕ) : Type 0 where
  pub name_len : head_at store at ≡ length (form_at forms k).name
  pub body_len : head_at store (at + 1) ≡ length (form_at forms k).body
  pub pointer : head_at store (at + 2) ≡ (form_at forms k).pointer
  pub heads : slice_range store at (at + 3) ≡ Head (length (form_at forms k).name) ∷ Head (length (form_at forms k).body) ∷ Head (form_at forms k).pointer ∷ []
  pub next : start_of forms (k + 1) ≡ at + (3 + length (form_at forms k).name + length (form_at forms k).body)
  pub end : at + (3 + length (form_at forms k).name + length (form_at forms k).body) ≤ length store
  pub split : store ≡ flat_forms (take k forms) ++ (flat_form (form_at forms k) ++ flat_forms (drop (k + 1) forms))
  pub name_part : slice_range store (at + 3) (at + 3 + length (form_at forms k).name) ≡ flat_text (form_at forms k).name
  pub body_part : slice_range store (at + 3 + length (form_at forms k).name) (at + 3 + length (form_at forms k).name + length (form_at forms k).body) ≡ map flat_item (form_at forms k).body
  pub front : take at store ≡ flat_forms (take k forms)
  pub behind : drop (at + (3 + length (form_at forms k).name + length (form_at forms k).body)) store ≡ flat_forms (drop (k + 1) forms)

-- the cells before a form
pub start_of-le : (forms : List Form) (k : ℕ) → start_of forms k ≤ length (flat_forms forms)
start_of-le forms k =
    let split = ap flat_forms (sym (take-append-drop k forms)) ∙ flat_map-append flat_form (take k forms) (drop k forms) in
    omega (arith, ap length split, length-append (flat_forms (take k forms)) (flat_forms (drop k forms)))

module _ (forms : List Form) (store : List Cell) (k at : ℕ) (whole : flat_forms forms ≡ store) (within : k < length forms) (begins : at ≡ start_of forms k) where
  abbrev form : Form
  form = form_at forms k

  abbrev front : List Cell
  front = flat_forms (take k forms)

  abbrev rest : List Cell
  rest = flat_forms (drop (k + 1) forms)

  split : store ≡ front ++ (flat_form form ++ rest)
  split =
      let here : drop k forms ≡ form ∷ drop (k + 1) forms = drop_more forms k (record { name = []; body = []; pointer = 0 }) within in
      sym whole ∙ ap flat_forms (sym (take-append-drop k forms)) ∙ flat_map-append flat_form (take k forms) (drop k forms) ∙ ap (λ fs. front ++ flat_forms fs) here

  behind_front : drop at store ≡ flat_form form ++ rest
  behind_front = ap (drop at) split ∙ drop_at front (flat_form form ++ rest) at (sym begins)

  read : (i : ℕ) → slice_get store (at + i) ≡ slice_get (flat_form form ++ rest) i
  read i = sym (slice_get-drop at store i) ∙ ap (λ cells. slice_get cells i) behind_front

  at_is : at ≡ at + 0
  at_is = omega arith

  behind_heads : drop (at + 3) store ≡ flat_text form.name ++ (map flat_item form.body ++ rest)
  behind_heads =
      sym (drop-drop 3 at store) ∙ ap (drop 3) behind_front ∙ append_assoc (flat_text form.name) (map flat_item form.body) rest

  behind_name : drop (at + 3 + length form.name) store ≡ map flat_item form.body ++ rest
  behind_name =
      sym (drop-drop (length form.name) (at + 3) store) ∙ ap (drop (length form.name)) behind_heads
      ∙ drop_at (flat_text form.name) (map flat_item form.body ++ rest) (length form.name) (length-map form.name Byte)

  next_start : start_of forms (k + 1) ≡ at + form_cells form
  next_start =
      let more = take_more forms k (record { name = []; body = []; pointer = 0 }) within in
      let joined = ap (λ fs. length (flat_forms fs)) more ∙ ap length (flat_map-append flat_form (take k forms) (form ∷ [])) in
      omega (arith, begins, joined, length-append front (flat_form form ++ []), ap length (append-nil (flat_form form)), length-flat_form form)

  pub stands : Stands forms store k at
  stands =
      let three : at + 3 - at ≡ 3 = omega arith in
      let name_size : at + 3 + length form.name - (at + 3) ≡ length form.name = omega arith in
      let body_size : at + 3 + length form.name + length form.body - (at + 3 + length form.name) ≡ length form.body = omega arith in
      let end : at + (3 + length form.name + length form.body) ≡ at + 3 + length form.name + length form.body = omega arith in
      record {
        name_len = ap (head_at store) at_is ∙ ap head_number (read 0);
        body_len = ap head_number (read 1);
        pointer = ap head_number (read 2);
        heads = ap (λ n. take n (drop at store)) three ∙ ap (take 3) behind_front;
        next = next_start;
        end = omega (arith, next_start, start_of-le forms (k + 1), ap length whole);
        split = split;
        name_part = rw (name_size, behind_heads) (take_at (flat_text form.name) (map flat_item form.body ++ rest) (length form.name) (length-map form.name Byte));
        body_part = rw (body_size, behind_name) (take_at (map flat_item form.body) rest (length form.body) (length-map form.body flat_item));
        front = ap (take at) split ∙ take_at front (flat_form form ++ rest) at (sym begins);
        behind = ap (λ i. drop i store) end ∙ sym (drop-drop (length form.body) (at + 3 + length form.name) store)
            ∙ ap (drop (length form.body)) behind_name ∙ drop_at (map flat_item form.body) rest (length form.body) (length-map form.body flat_item);
      }

-- the cells without one form
pub removed : (forms : List Form) (store : List Cell) (k at : ℕ) → Stands forms store k at → take at store ++ drop (at + (3 + length (form_at forms k).name + length (form_at forms k).body)) store ≡ flat_forms (remove forms k)
removed forms store k at f =
    let e : k + 1 ≡ suc k = omega arith in
    rw (f.front, f.behind, e) (sym (flat_map-append flat_form (take k forms) (drop (suc k) forms)))

-- the cells with another form at a place
pub flat-set : (forms : List Form) (k : ℕ) (form : Form) → k < length forms → flat_forms (set forms k form) ≡ flat_forms (take k forms) ++ (flat_form form ++ flat_forms (drop (k + 1) forms))
flat-set forms k form within =
    let e : suc k ≡ k + 1 = omega arith in
    ap flat_forms (set_split forms k form within) ∙ flat_map-append flat_form (take k forms) (form ∷ drop (suc k) forms) ∙ ap (λ n. flat_forms (take k forms) ++ (flat_form form ++ flat_forms (drop n forms))) e

-- a form at a place starts where the one before it did
pub start_of-set : (forms : List Form) (k : ℕ) (form : Form) → start_of (set forms k form) k ≡ start_of forms k
start_of-set forms k form = ap (λ fs. length (flat_forms fs)) (take-set forms k form)

-- the lists without the cells of form k, from its place up to the next
pub removed-lists : (s t : Lists) (forms : List Form) (k at end : ℕ) → Stands forms s.store k at → end ≡ start_of forms (k + 1) → t ≡ record s { store = take at s.store ++ drop end s.store } → t ≡ record s { store = flat_forms (remove forms k) }
removed-lists s t forms k at end f end_is is =
    let past = end_is ∙ f.next in
    let e : take at s.store ++ drop end s.store ≡ flat_forms (remove forms k) = rw past (removed forms s.store k at f) in
    is ∙ rw e

-- the cells with another pointer of a form
pub repointed : (forms : List Form) (store : List Cell) (k at p : ℕ) → k < length forms → at ≡ start_of forms k → Stands forms store k at → set store (at + 2) (Head p) ≡ flat_forms (set forms k (record (form_at forms k) { pointer = p }))
repointed forms store k at p within begins f =
    let form = form_at forms k in
    let front = flat_forms (take k forms) in
    let tail = flat_form form ++ flat_forms (drop (k + 1) forms) in
    let e : at + 2 - length front ≡ 2 = omega arith in
    ap (λ cells. set cells (at + 2) (Head p)) f.split ∙ set-append_right front tail (length front) (at + 2) (Head p) refl (omega arith) ∙ ap (λ i. front ++ set tail i (Head p)) e ∙ sym (flat-set forms k (record form { pointer = p }) within)
