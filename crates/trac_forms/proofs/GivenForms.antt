-- Forms that are given from outside: their cells, and whether one has a name.
use Rattle.trac_forms.proofs.Imports.{◌≡◌, ◌≢◌, ℕ, ◌+◌, ◌<◌, ◌≤◌, false, List, ◌∷◌, ◌++◌, length, take, drop, set, map, get_or, sym, ap, ◌∙◌, arith, rules, places, same_lists, length-map, drop_more, get_or-map, Cell, Comma, Head, flat_item, Item, text_of_cells, character_of, reads, paste, paste_more, Text, Decides, false≢true}
use Rattle.trac_language.specs.declared.item.Item.TheVariants.{Gap}
use Rattle.trac_store.specs.declared.form_heads.Heads.{Heads}

module _ (was : List Cell) (start : ℕ) (name text : List Cell) where
  -- three cells and two parts stand where they were written
  cells-written : (n m : ℕ) (x y z : Cell) → length name ≡ n → length text ≡ m → length was ≡ start + (3 + n + m) → let headed = set (set (set was start x) (start + 1) y) (start + 2) z in let named = take (start + 3) headed ++ name ++ drop (start + 3 + n) headed in take (start + 3 + n) named ++ text ++ drop (start + 3 + n + m) named ≡ take start was ++ x ∷ y ∷ z ∷ (name ++ text)
  cells-written n m x y z named texted last =
      same_lists _ _ (search (rules, places)) (λ k d less. grind (arith, reads))

  -- so do the heads, the name and the text of a form
  pub form-written : (heads : Heads) → length name ≡ heads.name → length text ≡ heads.body → length was ≡ start + (3 + heads.name + heads.body) → let headed = set (set (set was start (Head heads.name)) (start + 1) (Head heads.body)) (start + 2) (Head heads.pointer) in let named = take (start + 3) headed ++ name ++ drop (start + 3 + heads.name) headed in take (start + 3 + heads.name) named ++ text ++ drop (start + 3 + heads.name + heads.body) named ≡ take start was ++ Head heads.name ∷ Head heads.body ∷ Head heads.pointer ∷ (name ++ text)
  form-written heads =
      cells-written heads.name heads.body (Head heads.name) (Head heads.body) (Head heads.pointer)

-- the next item, and those behind it
pub item-next : (items rest : List Item) (i : ℕ) (item : Item) → i < length items → drop i items ≡ item ∷ rest → (get_or items i (Gap 0) ≡ item) × (drop (i + 1) items ≡ rest)
item-next items rest i item within next =
    let split : get_or items i (Gap 0) ∷ drop (i + 1) items ≡ item ∷ rest = sym (drop_more items i (Gap 0) within) ∙ next in
    (cc split, cc split)

-- the next item is written behind those before it
pub item-written : (was : List Cell) (at i : ℕ) (items rest : List Item) (item : Item) → at + length items ≤ length was → i < length items → drop i items ≡ item ∷ rest → set (take at was ++ take i (map flat_item items) ++ drop (at + i) was) (at + i) (flat_item item) ≡ take at was ++ take (i + 1) (map flat_item items) ++ drop (at + (i + 1)) was
item-written was at i items rest item room within next =
    let long = length-map items flat_item in
    let here : get_or (map flat_item items) i Comma ≡ flat_item item = get_or-map flat_item items i (Gap 0) Comma within ∙ ap flat_item (item-next items rest i item within next).0 in
    ap (λ cell. set (paste was at (map flat_item items) i) (at + i) cell) (sym here) ∙ paste_more was at (map flat_item items) i Comma (omega arith) (omega arith)

-- texts that differ at a place are not the same
pub texts-differ : (cells : List Cell) (text : Text) (i x : ℕ) → i < length cells → x ≡ character_of (get_or cells i Comma) → x ≢ get_or text i 0 → Decides false (text_of_cells cells ≡ text)
texts-differ cells text i x within is differs = (
  λ t. absurd (false≢true t),
  λ same. absurd (differs (is ∙ sym (get_or-map character_of cells i Comma 0 within) ∙ ap (λ t. get_or t i 0) same)),
)
