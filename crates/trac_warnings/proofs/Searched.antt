-- Texts that `in` looks for, and texts that stand among items.
use Rattle.std.proofs.Common.{◌≡◌, ◌<◌, ◌≤◌, ◌+◌, ◌-◌, ◌∙◌, ℕ, suc, Bool, true, false, refl, ap, sym, List, [], ◌∷◌, ◌++◌, length, drop, take, get_or, Option, Some, None, arith, rules}
use Rattle.std.proofs.lemmas.List.{drop-drop, drop_all, drop_more, take-append-drop}
use Rattle.std.specs.Prelude.{◌&&◌, ◌||◌, ◌==◌, nat_lt, not, is_none, option_map, slice_get, slice_range, if◌then◌else◌}
use Rattle.trac_language.specs.declared.item.Item.{Item}
use Rattle.trac_language.specs.declared.item.Item.TheVariants.{Byte, Gap}
use Rattle.trac_language.specs.Text.{Text}
use Rattle.trac_language.specs.Form.{Form, after_pointer, items_of}
use Rattle.trac_language.specs.Part.{initial_part, up_to}
use Rattle.trac_language.specs.Segment.{place_of}
use Rattle.trac_language.specs.Segment as segment
use Rattle.trac_space.specs.declared.cell.Cell.{Cell}
use Rattle.trac_space.specs.Texts.{character_of, text_of_cells}
use Rattle.trac_warnings.specs.Gaps.{begins, highest_gap, is_absent, is_character, stands_in}
use Rattle.trac_warnings.proofs.Grown.{head_is}
use Rattle.trac_warnings.proofs.NextNames.{taken_whole}

begins_same : (text : Text) (items : List Item) → segment.begins items text ≡ begins text items
begins_same [] items = refl
begins_same (c ∷ text) [] = refl
begins_same (c ∷ text) (Byte b ∷ items) = ap (λ t. (b == c) && t) (begins_same text items)
begins_same (c ∷ text) (Gap k ∷ items) = refl

next_absent : (o : Option ℕ) → is_none (option_map suc o) ≡ is_none o
next_absent None = refl
next_absent (Some n) = refl

here_or_later : (b s : Bool) (o : Option ℕ) → is_none o ≡ not s → is_none (if b then Some 0 else option_map suc o) ≡ not (b || s)
here_or_later true s o is = refl
here_or_later false s o is = next_absent o ∙ is

no_place : (text : Text) (items : List Item) → is_none (place_of text items) ≡ not (stands_in text items)
no_place text [] = refl
no_place text (item ∷ items) =
    here_or_later (segment.begins (item ∷ items) text) (stands_in text items) (place_of text items) (no_place text items)
    ∙ ap (λ b. not (b || stands_in text items)) (begins_same text (item ∷ items))

no_part : (o : Option ℕ) (text : Text) (form : Form) → is_none (up_to o text form) ≡ is_none o
no_part None text form = refl
no_part (Some n) text form = refl

-- `in` finds nothing exactly if its text, which isn't null, doesn't stand in what is left of the form
not_found : (c : ℕ) (text : Text) (form : Form) → is_none (initial_part (c ∷ text) form) ≡ not (stands_in (c ∷ text) (after_pointer form))
not_found c text form =
    no_part (place_of (c ∷ text) (after_pointer form)) (c ∷ text) form ∙ no_place (c ∷ text) (after_pointer form)

-- the items from a place on begin with a text exactly if the first begins it, and the others with what is left of it
first_item : (c : ℕ) (text : Text) (items : List Item) (k : ℕ) (item : Item) → slice_get items k ≡ Some item → begins (c ∷ text) (drop k items) ≡ (is_character c item && begins text (drop (k + 1) items))
first_item c text items k item is = ap (begins (c ∷ text)) (head_is items k item is)

pub other_item : (text : List Cell) (items : List Item) (k : ℕ) (d : Cell) (item : Item) → 0 < length text → slice_get items k ≡ Some item
    → is_character (character_of (get_or text 0 d)) item ≡ false → begins (text_of_cells text) (drop k items) ≡ false
other_item [] items k d item less is other = absurd (omega arith)
other_item (cell ∷ text) items k d item less is other =
    first_item (character_of cell) (text_of_cells text) items k item is ∙ ap (λ b. b && begins (text_of_cells text) (drop (k + 1) items)) other

behind_item : (text : List Cell) (items : List Item) (k : ℕ) (d : Cell) (item : Item) → 0 < length text → slice_get items k ≡ Some item
    → is_character (character_of (get_or text 0 d)) item ≡ true
    → begins (text_of_cells (drop 1 text)) (drop (k + 1) items) ≡ begins (text_of_cells text) (drop k items)
behind_item [] items k d item less is same = absurd (omega arith)
behind_item (cell ∷ text) items k d item less is same =
    sym (first_item (character_of cell) (text_of_cells text) items k item is ∙ ap (λ b. b && begins (text_of_cells text) (drop (k + 1) items)) same)

pub next_item : (text : List Cell) (items : List Item) (k : ℕ) (d : Cell) (item : Item) → 0 < length text → slice_get items k ≡ Some item
    → is_character (character_of (get_or text 0 d)) item ≡ true
    → begins (text_of_cells (take (length text - 1) (drop 1 text))) (drop (k + 1) items) ≡ begins (text_of_cells text) (drop k items)
next_item text items k d item less is same =
    ap (λ t. begins (text_of_cells t) (drop (k + 1) items)) (taken_whole text 1) ∙ behind_item text items k d item less is same

-- where no item is left, only a null text begins
pub no_item : (text : List Cell) (items : List Item) (k : ℕ) → length items ≤ k → begins (text_of_cells text) (drop k items) ≡ (length text == 0)
no_item [] items k past = refl
no_item (cell ∷ text) items k past = ap (begins (text_of_cells (cell ∷ text))) (drop_all k items past) ∙ search (arith, rules)

-- a text, which isn't null, is absent from a form of which something is left exactly if it doesn't stand there
pub absent : (text : List Cell) (form : Form) → (length text == 0) ≡ false → form.pointer < length form.body
    → is_absent (text_of_cells text) form ≡ not (stands_in (text_of_cells text) (after_pointer form))
absent [] form given left = absurd cc
absent (cell ∷ text) form given left =
    let less : nat_lt form.pointer (length form.body) ≡ true = search (arith, rules, left) in
    ap (λ b. b && is_none (initial_part (text_of_cells (cell ∷ text)) form)) less ∙ not_found (character_of cell) (text_of_cells text) form

-- a text stands among the items from a place on, if they begin with it
pub stands_here : (text : Text) (items : List Item) (k : ℕ) → k < length items → begins text (drop k items) ≡ true → stands_in text (drop k items) ≡ true
stands_here text items k less here =
    let e = drop_more items k (Gap 0) less in
    ap (stands_in text) e ∙ ap (λ b. b || stands_in text (drop (k + 1) items)) (ap (begins text) (sym e) ∙ here)

no_gap : (text : Text) (rest : List Item) (highest : ℕ) → highest_gap highest (items_of text ++ rest) ≡ highest_gap highest rest
no_gap [] rest highest = refl
no_gap (c ∷ text) rest highest = no_gap text rest highest

-- characters that stand in a row have no gap among them
pub over_characters : (items : List Item) (place count : ℕ) (text : Text) (highest : ℕ) → slice_range items place (place + count) ≡ items_of text
    → highest_gap highest (drop (place + count) items) ≡ highest_gap highest (drop place items)
over_characters items place count text highest are =
    let gap = highest_gap highest in
    let count_is : place + count - place ≡ count = omega arith in
    let rest = drop (place + count - place) (drop place items) in
    sym (sym (ap gap (take-append-drop (place + count - place) (drop place items)))
    ∙ ap (λ t. gap (t ++ rest)) are ∙ no_gap text rest highest
    ∙ ap gap (drop-drop (place + count - place) place items) ∙ ap (λ n. gap (drop (place + n) items)) count_is)
