-- Forms as cells and back.
use Rattle.trac_store.proofs.Imports.{◌≡◌, ℕ, zero, suc, ◌+◌, ◌-◌, ◌≤◌, List, [], ◌∷◌, ◌++◌, length, take, drop, map, refl, sym, ap, ◌∙◌, arith, slice_range, All, append_assoc, length-append, length-map, take_at, drop_at, length-between, All-head}
use Rattle.trac_store.proofs.Imports.{All-tail, sum_by-cons, Item, Form, items_of, form_cells, cells, Cell, Byte, Head, Lists, character_of, IsByte, flat_item, flat_form, flat_forms, IsTextPart, part_text, new_form}
use Rattle.trac_store.proofs.Imports.{item_of, read_forms, forms_in, places, rules, same_lists}
use Rattle.trac_language.specs.declared.item.Item.TheVariants as item

-- how many cells a form has
pub length-flat_form : (form : Form) → length (flat_form form) ≡ form_cells form
length-flat_form form = omega (arith, length-append (map Byte form.name) (map flat_item form.body), length-map form.name Byte, length-map form.body flat_item)

pub length-flat : (forms : List Form) → length (flat_forms forms) ≡ cells forms
length-flat [] = refl
length-flat (form ∷ forms) =
    omega (arith, length-flat forms, length-append (flat_form form) (flat_forms forms), length-flat_form form, sum_by-cons form_cells form forms)

pub character_of-Byte : (text : List ℕ) → map character_of (map Byte text) ≡ text
character_of-Byte [] = refl
character_of-Byte (b ∷ text) = ap (λ bs. b ∷ bs) (character_of-Byte text)

-- items read back from their cells
pub item_of-cell : (body : List Item) → map item_of (map flat_item body) ≡ body
item_of-cell [] = refl
item_of-cell (item.Byte b ∷ body) = ap (λ is. item.Byte b ∷ is) (item_of-cell body)
item_of-cell (item.Gap k ∷ body) = ap (λ is. item.Gap k ∷ is) (item_of-cell body)

read_forms-flat : (n : ℕ) (forms : List Form) → length (flat_forms forms) ≤ n → read_forms n (flat_forms forms) ≡ forms
read_forms-flat zero [] h = refl
read_forms-flat (suc n) [] h = refl
read_forms-flat zero (form ∷ forms) h = absurd (omega (arith, length-append (flat_form form) (flat_forms forms)))
read_forms-flat (suc n) (form ∷ forms) h =
    let name = map Byte form.name in
    let body = map flat_item form.body in
    let rest = flat_forms forms in
    let name_len = length-map form.name Byte in
    let body_len = length-map form.body flat_item in
    let both_len : length (name ++ body) ≡ length form.name + length form.body = omega (arith, length-append name body) in
    let split = append_assoc name body rest in
    let first = ap (take (length form.name)) split ∙ take_at name (body ++ rest) (length form.name) name_len in
    let behind = ap (drop (length form.name)) split ∙ drop_at name (body ++ rest) (length form.name) name_len in
    let second = ap (take (length form.body)) behind ∙ take_at body rest (length form.body) body_len in
    let third = drop_at (name ++ body) rest (length form.name + length form.body) both_len in
    let more = read_forms-flat n forms (omega (arith, length-append (name ++ body) rest)) in
    rw (first, second, third, more, character_of-Byte form.name, item_of-cell form.body)

-- the cells of forms stand for those forms
pub forms_in-flat : (forms : List Form) → forms_in (flat_forms forms) ≡ forms
forms_in-flat forms = read_forms-flat (length (flat_forms forms)) forms (omega arith)

-- a part of a list is that part of a longer list
pub part_of_longer : {X : Type 0} (xs ys : List X) (a b : ℕ) → a ≤ b → b ≤ length xs → slice_range (xs ++ ys) a b ≡ slice_range xs a b
part_of_longer xs ys a b order within = same_lists _ _ (search (rules, places)) (λ k d less. grind (arith, places))

-- a part without its first n cells
pub drop-part : (cells : List Cell) (at n end : ℕ) → at + n ≤ end → drop n (slice_range cells at end) ≡ slice_range cells (at + n) end
drop-part cells at n end within = same_lists _ _ (search (rules, places)) (λ k d less. grind (arith, places))

pub Byte-character_of : (cells : List Cell) → All IsByte cells → map Byte (map character_of cells) ≡ cells
Byte-character_of [] h = refl
Byte-character_of (cell ∷ cells) h =
    let first = one cell (All-head IsByte cell cells h) in
    let rest = Byte-character_of cells (All-tail IsByte cell cells h) in
    ap (λ c. c ∷ map Byte (map character_of cells)) first ∙ ap (λ cs. cell ∷ cs) rest
  where
    one : (c : Cell) → IsByte c → Byte (character_of c) ≡ c
    one (Byte b) p = refl
    one cell p = absurd p

-- the items of a text as cells
pub flat_items_of : (text : List ℕ) → map flat_item (items_of text) ≡ map Byte text
flat_items_of [] = refl
flat_items_of (b ∷ text) = ap (λ cs. Byte b ∷ cs) (flat_items_of text)

-- a part's text has as many characters as the part cells
pub length-part_text : (string : List Cell) (a b : ℕ) → b ≤ length string → length (part_text string a b) ≡ b - a
length-part_text string a b within = length-map (slice_range string a b) character_of ∙ length-between string a b within

-- a new form as cells
pub flat_form_of : (string : List Cell) (a b from to : ℕ) → IsTextPart string a b → IsTextPart string from to → flat_form (new_form string a b from to) ≡ Head (b - a) ∷ Head (to - from) ∷ Head 0 ∷ (slice_range string a b ++ slice_range string from to)
flat_form_of string a b from to name text =
    let name_len = length-part_text string a b name.within in
    let text_len : length (items_of (part_text string from to)) ≡ to - from = length-map (part_text string from to) item.Byte ∙ length-part_text string from to text.within in
    let n = Byte-character_of (slice_range string a b) name.bytes in
    let t = flat_items_of (part_text string from to) ∙ Byte-character_of (slice_range string from to) text.bytes in
    rw (name_len, text_len, n, t)

-- there are no more forms than cells
pub count-le : (forms : List Form) → length forms ≤ length (flat_forms forms)
count-le [] = omega arith
count-le (form ∷ forms) = omega (arith, count-le forms, length-append (flat_form form) (flat_forms forms))

-- cells put at the end of neutral and moved to the store
pub moved : (s put after : Lists) (more : List Cell) (from : ℕ) → from ≡ length s.neutral → put ≡ record s { neutral = s.neutral ++ more } → after ≡ record put { store = put.store ++ drop from put.neutral; neutral = take from put.neutral } → after ≡ record s { store = s.store ++ more }
moved s put after more from len is then =
    let store = ap (λ v. v.store) is in
    let neutral = ap (λ v. v.neutral) is in
    let active = ap (λ v. v.active) is in
    let index_area = ap (λ v. v.index_area) is in
    let room = ap (λ v. v.room) is in
    let tail = drop_at s.neutral more from (sym len) in
    let front = take_at s.neutral more from (sym len) in
    then ∙ rw (store, neutral, active, index_area, room, tail, front)

-- how many cells a new form has
pub length-new_form : (string : List Cell) (a b from to : ℕ) → b ≤ length string → to ≤ length string → form_cells (new_form string a b from to) ≡ 3 + (b - a) + (to - from)
length-new_form string a b from to name text =
    omega (arith, length-part_text string a b name, length-map (part_text string from to) item.Byte, length-part_text string from to text)
