-- The first of the forms that cells stand for, and those behind it.
use Rattle.trac_forms.proofs.Imports.{◌≡◌, ◌≢◌, ℕ, ◌+◌, ◌-◌, ◌<◌, ◌≤◌, List, [], ◌∷◌, length, take, drop, map, get_or, slice_range, Some, refl, sym, ap, ◌∙◌, subst, arith, take-length, flat_text, flat_item, form_cells, length-map, length-drop, drop_more, length-between, Form, IsStore, Cell, Byte, Call, Comma, Head, seen}
use Rattle.trac_forms.proofs.Imports.{text_of_cells, flat_forms, form_at, item_of, forms_in, head_number, form_of, IsListed, IsForm, item_of-cell, forms_in-flat, part-seen, number-at, stands, pointer-within}
use Rattle.trac_forms.proofs.Imports.{All, All-head, All-tail, IsByte, drop-map, take-map, take-take, length-take-le, items_of}
use Rattle.trac_store.proofs.Finding.{shown-text}

item_of-seen : (cells : List Cell) → map item_of (map seen cells) ≡ map item_of cells
item_of-seen [] = refl
item_of-seen (Call mode k ∷ cells) = ap (λ items. item_of Comma ∷ items) (item_of-seen cells)
item_of-seen (Head k ∷ cells) = ap (λ items. item_of Comma ∷ items) (item_of-seen cells)
item_of-seen (cell ∷ cells) = ap (λ items. item_of cell ∷ items) (item_of-seen cells)

-- a form of which the cells of its name and of its body are seen
module _ (form : Form) (name body : List Cell) (p : ℕ) (named : map seen name ≡ flat_text form.name) (bodied : map seen body ≡ map flat_item form.body) (p_is : p ≡ form.pointer) where
  pub stored-form : form_of name body p ≡ form
  stored-form =
      let text : text_of_cells name ≡ form.name = shown-text name form.name named in
      let items : map item_of body ≡ form.body = sym (item_of-seen body) ∙ ap (map item_of) bodied ∙ item_of-cell form.body in
      λ i. record { name = text i; body = items i; pointer = p_is i }

  pub stored-is_form : form_cells form ≤ 16777216 → form.pointer ≤ length form.body → IsForm name body p
  stored-is_form bounded inside =
      let name_long = sym (length-map name seen) ∙ ap length named ∙ length-map form.name Byte in
      let body_long = sym (length-map body seen) ∙ ap length bodied ∙ length-map form.body flat_item in
      record {
        name_bounded = omega (arith, name_long, bounded);
        body_bounded = omega (arith, body_long, bounded);
        pointer_within = omega (arith, body_long, p_is, inside);
      }

-- the first form stands in its cells, and the others in the rest
pub record IsFirst (cells : List Cell) (count n m p : ℕ) : Type 0 where
  pub forms : forms_in (map seen cells) ≡ form_of (slice_range cells 3 (3 + n)) (slice_range cells (3 + n) (3 + n + m)) p ∷ forms_in (map seen (slice_range cells (3 + n + m) (length cells)))
  pub form : IsForm (slice_range cells 3 (3 + n)) (slice_range cells (3 + n) (3 + n + m)) p
  pub end : 3 + n + m ≤ length cells
  pub rest : IsListed (slice_range cells (3 + n + m) (length cells)) (count - 1)

module _ (cells : List Cell) (count n m p : ℕ) (listed : IsListed cells count) (some : count ≢ 0) (n_is : n ≡ head_number (Some (get_or cells 0 (Byte 0)))) (m_is : m ≡ head_number (Some (get_or cells 1 (Byte 0)))) (p_is : p ≡ head_number (Some (get_or cells 2 (Byte 0)))) where
  pub first-listed : IsFirst cells count n m p
  first-listed =
      let store = map seen cells in
      let forms = forms_in store in
      let form = form_at forms 0 in
      let long : length store ≡ length cells = length-map cells seen in
      let within : 0 < length forms = omega (arith, listed.forms.count_is, some) in
      let f = stands forms store 0 0 listed.forms.whole within refl in
      let name_at : n ≡ length form.name = n_is ∙ number-at cells store 0 refl (omega (arith, f.end, long)) ∙ f.name_len in
      let body_at : m ≡ length form.body = m_is ∙ number-at cells store 1 refl (omega (arith, f.end, long)) ∙ f.body_len in
      let pointer_at : p ≡ form.pointer = p_is ∙ number-at cells store 2 refl (omega (arith, f.end, long)) ∙ f.pointer in
      let e = 3 + n + m in
      let name = slice_range cells 3 (3 + n) in
      let body = slice_range cells (3 + n) e in
      let rest = slice_range cells e (length cells) in
      let end : e ≤ length cells = omega (arith, long, f.end, name_at, body_at) in
      let here : forms ≡ form ∷ drop 1 forms = drop_more forms 0 (record { name = []; body = []; pointer = 0 }) within in
      let named : map seen name ≡ flat_text form.name = rw (part-seen cells 3 (3 + n), name_at) f.name_part in
      let bodied : map seen body ≡ map flat_item form.body = rw (part-seen cells (3 + n) e, name_at, body_at) f.body_part in
      let whole_length : length cells - e ≡ length (drop e store) = omega (arith, length-drop e store, long) in
      let same_end : e ≡ 0 + (3 + length form.name + length form.body) = omega (arith, name_at, body_at) in
      let others : map seen rest ≡ flat_forms (drop 1 forms) =
      part-seen cells e (length cells) ∙ ap (λ k. take k (drop e store)) whole_length ∙ take-length (drop e store)
      ∙ ap (λ k. drop k store) same_end ∙ f.behind in
      let later : forms_in (map seen rest) ≡ drop 1 forms = ap forms_in others ∙ forms_in-flat (drop 1 forms) in
      let rest_long = length-between cells e (length cells) (omega arith) in
      let bounded = listed.forms.bounded in
      let behind : IsStore (form ∷ drop 1 forms) = subst IsStore here listed.store in
      record {
        forms = here ∙ ap (λ (f : Form). f ∷ drop 1 forms) (sym (stored-form form name body p named bodied pointer_at)) ∙ ap (λ fs. form_of name body p ∷ fs) (sym later);
        form = stored-is_form form name body p named bodied pointer_at (omega (arith, long, bounded, f.end)) (pointer-within forms 0 listed.store);
        end = end;
        rest = record {
          forms = record {
            whole = ap flat_forms later ∙ sym others;
            count_is = omega (arith, listed.forms.count_is, ap length here, ap length later);
            bounded = omega (arith, rest_long, bounded);
          };
          store = subst IsStore (sym later) behind.2;
        };
      }

-- ---- runs of characters in a body

characters-items : (cells : List Cell) → All IsByte cells → map item_of cells ≡ items_of (text_of_cells cells)
characters-items [] all = refl
characters-items (Byte b ∷ cells) all = ap (λ items. item_of (Byte b) ∷ items) (characters-items cells (All-tail IsByte (Byte b) cells all))
characters-items (cell ∷ cells) all = absurd (All-head IsByte cell cells all)

-- the items of the first cells of a part, which are all characters
pub run-items : (cells : List Cell) (from to count : ℕ) → from + count ≤ to → to ≤ length cells → All IsByte (take count (slice_range cells from to)) → slice_range (map item_of cells) from (from + length (take count (slice_range cells from to))) ≡ items_of (text_of_cells (take count (slice_range cells from to)))
run-items cells from to count few within all =
    let run = take count (slice_range cells from to) in
    let rest = drop from cells in
    let same : run ≡ take count rest = take-take count (to - from) rest (omega (arith, few)) in
    let long : length run ≡ count = ap length same ∙ length-take-le count rest (omega (arith, length-drop from cells, few, within)) in
    let size : from + length run - from ≡ count = omega (arith, long) in
    ap (λ n. take n (drop from (map item_of cells))) size ∙ ap (take count) (drop-map item_of from cells) ∙ take-map item_of count rest
    ∙ ap (map item_of) (sym same) ∙ characters-items run all
