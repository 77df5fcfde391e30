-- Names and texts, one item on.
use Rattle.std.proofs.Common.{◌≡◌, ◌<◌, ◌+◌, ◌-◌, ◌∙◌, ℕ, false, refl, ap, sym, List, [], ◌∷◌, length, drop, get_or, take, arith, Bool}
use Rattle.std.specs.Prelude.{◌||◌}
use Rattle.std.proofs.lemmas.List.{drop_more, take_all, length-drop}
use Rattle.trac_language.specs.declared.item.Item.{Item}
use Rattle.trac_language.specs.declared.item.Item.TheVariants.{Gap}
use Rattle.trac_language.specs.Text.{Text}
use Rattle.trac_space.specs.declared.cell.Cell.{Cell}
use Rattle.trac_space.specs.declared.cell.Cell.TheVariants.{Byte}
use Rattle.trac_space.specs.Texts.{text_of_cells}
use Rattle.trac_warnings.specs.Suspicions.{behind_name, is_called_alone, is_written}
use Rattle.trac_warnings.specs.Gaps.{begins, begins_in_name, begins_so, behind_opening, is_of_word, stands_in, stands_in_name, stands_so}

-- a text that isn't at its end doesn't begin where no item is left
none_left : (c : ℕ) (text : Text) (items : List Item) → length items < 1 → begins (c ∷ text) items ≡ false
none_left c text [] few = refl
none_left c text (item ∷ items) few = absurd (omega arith)

pub ends_early : (text : List Cell) (i : ℕ) (items : List Item) → i < length text → length items < 1 → begins (text_of_cells (drop i text)) items ≡ false
ends_early text i items less few = ap (λ t. begins (text_of_cells t) items) (drop_more text i (Byte 0) less) ∙ none_left _ _ items few

pub taken_whole : {A : Type 0} (items : List A) (i : ℕ) → take (length items - i) (drop i items) ≡ drop i items
taken_whole items i = let long = length-drop i items in take_all (length items - i) (drop i items) (omega (arith, long))

pub next_name : (text : Text) (items : List Item) (i : ℕ) → i < length items → begins_in_name text (behind_opening (drop i items)) ≡ false → stands_in_name text (drop (i + 1) items) ≡ stands_in_name text (drop i items)
next_name text items i less other =
    let e = drop_more items i (Gap 0) less in
    let more = drop (i + 1) items in
    sym (ap (stands_in_name text) e ∙ ap (λ b. b || stands_in_name text more) (ap (λ t. begins_in_name text (behind_opening t)) (sym e) ∙ other))

pub next_place : (text : Text) (items : List Item) (i : ℕ) → i < length items → begins text (drop i items) ≡ false → stands_in text (drop (i + 1) items) ≡ stands_in text (drop i items)
next_place text items i less other =
    let e = drop_more items i (Gap 0) less in
    let more = drop (i + 1) items in
    sym (ap (stands_in text) e ∙ ap (λ b. b || stands_in text more) (ap (begins text) (sym e) ∙ other))

-- nothing stands behind a name where no byte is left
pub nothing_behind : (name : Text) (bytes : List ℕ) → length bytes < 1 → behind_name name bytes ≡ []
nothing_behind [] [] few = refl
nothing_behind (c ∷ name) [] few = refl
nothing_behind name (b ∷ bytes) few = absurd (omega arith)

pub not_written : (name : Text) (bytes : List ℕ) → length bytes < 1 → is_written name bytes ≡ false
not_written name [] few = refl
not_written name (b ∷ bytes) few = absurd (omega arith)

pub not_called_alone : (name : Text) (bytes : List ℕ) → length bytes < 1 → is_called_alone name bytes ≡ false
not_called_alone name [] few = refl
not_called_alone name (b ∷ bytes) few = absurd (omega arith)

-- a text that doesn't stand so at a place stands so behind it or nowhere
pub next_so : (joined is_behind : Bool) (text : Text) (items : List Item) (i : ℕ) (d : Item) → i < length items → begins_so joined is_behind text (drop i items) ≡ false
    → stands_so joined (is_of_word (get_or items i d)) text (drop (i + 1) items) ≡ stands_so joined is_behind text (drop i items)
next_so joined is_behind text items i d less other =
    let e = drop_more items i d less in
    let more = drop (i + 1) items in
    sym (ap (stands_so joined is_behind text) e
    ∙ ap (λ b. b || stands_so joined (is_of_word (get_or items i d)) text more) (ap (begins_so joined is_behind text) (sym e) ∙ other))
