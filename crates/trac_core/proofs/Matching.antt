-- The search for the right parenthesis that matches, character by character.
use Rattle.trac_core.proofs.Imports.{◌≡◌, ◌≢◌, ℕ, zero, suc, ◌+◌, ◌-◌, ◌*◌, ◌/◌, ◌%◌, ◌<◌, ◌≤◌, Bool, true, false, ◌&&◌, subst, List, [], ◌∷◌, ◌++◌, length, take, drop, Some, None, get_or, refl, sym, ap, ◌∙◌, arith, eq-eqb, sum_by, ⊎_elim, ◌==◌, if◌then◌else◌, ne_eqb, eqb-true, cases_Bool, drop_more, take_more, length-take, length-map, sum_by-cons, take-add, Cell, text_of_cells, character_of, Text, count, split_at_match, protected, IsAt, side_of, side_in, nat_tests}
use Rattle.std.proofs.lemmas.List.Sums.{sum_by-append, count_by-le-length}
use Rattle.std.proofs.Math.ListN.{drop_of_length-le}
use Rattle.trac_core.proofs.Scanning.{take-text, drop-text}
use Rattle.trac_laws.proofs.Parentheses.{weight, count_push, matches, split_found, split_passed, split_none}

module _ (text : Text) (i depth c : ℕ) (within : i < length text) (c_is : c ≡ get_or text i 0) (at : IsAt text i depth) where
  rest-is : drop i text ≡ c ∷ drop (i + 1) text
  rest-is = drop_more text i 0 within ∙ ap (λ b. b ∷ drop (i + 1) text) (sym c_is)

  more-is : take (i + 1) text ≡ take i text ++ c ∷ []
  more-is = take_more text i 0 within ∙ ap (λ b. take i text ++ b ∷ []) (sym c_is)

  pub matched : c ≡ 41 → depth ≡ 0 → protected text ≡ Some (take i text, drop (i + 1) text)
  matched right closed =
      let same : count 40 (take i text) ≡ count 41 (take i text) = omega arith in
      let yes_right : (c == 41) ≡ true = eq-eqb c 41 right in
      let yes_same : (count 40 (take i text) == count 41 (take i text)) ≡ true = eq-eqb _ _ same in
      let here : matches c (take i text) ≡ true = rw (yes_right, yes_same) refl in
      at.none ∙ ap (split_at_match (take i text)) rest-is ∙ split_found (take i text) (drop (i + 1) text) c here

  passes : matches c (take i text) ≡ false → split_at_match [] text ≡ split_at_match (take (i + 1) text) (drop (i + 1) text)
  passes other = at.none ∙ ap (split_at_match (take i text)) rest-is ∙ split_passed (take i text) (drop (i + 1) text) c other ∙ ap (λ t. split_at_match t (drop (i + 1) text)) (sym more-is)

  counts : (x : ℕ) (b : Bool) → (c == x) ≡ b → count x (take (i + 1) text) ≡ count x (take i text) + weight b
  counts x b e = ap (count x) more-is ∙ count_push x (take i text) c ∙ ap (λ b. count x (take i text) + weight b) e

  pub passes-left : c ≡ 40 → IsAt text (i + 1) (depth + 1)
  passes-left left =
      let wrong : (c == 41) ≡ false = ap (λ c. c == 41) left in
      let right : (c == 40) ≡ true = ap (λ c. c == 40) left in
      let l = counts 40 true right in
      let r = counts 41 false wrong in
      record { none = passes (ap (λ b. b && (count 40 (take i text) == count 41 (take i text))) wrong); open_is = omega arith }

  pub passes-right : c ≡ 41 → 0 < depth → IsAt text (i + 1) (depth - 1)
  passes-right right more =
      let yes_right : (c == 41) ≡ true = ap (λ c. c == 41) right in
      let no_left : (c == 40) ≡ false = ap (λ c. c == 40) right in
      let differ : count 40 (take i text) ≢ count 41 (take i text) = omega arith in
      let wrong : (count 40 (take i text) == count 41 (take i text)) ≡ false = ne_eqb _ _ differ in
      let l = counts 40 false no_left in
      let r = counts 41 true yes_right in
      record { none = passes (rw (yes_right, wrong) refl); open_is = omega arith }

  pub passes-other : c ≢ 40 → c ≢ 41 → IsAt text (i + 1) depth
  passes-other not_left not_right =
      let wrong : (c == 41) ≡ false = ne_eqb c 41 not_right in
      let no_left : (c == 40) ≡ false = ne_eqb c 40 not_left in
      let l = counts 40 false no_left in
      let r = counts 41 false wrong in
      record { none = passes (ap (λ b. b && (count 40 (take i text) == count 41 (take i text))) wrong); open_is = omega arith }

-- the search is through
pub unmatched : (text : Text) (i depth : ℕ) → length text ≤ i → IsAt text i depth → protected text ≡ None
unmatched text i depth past at = at.none ∙ ap (split_at_match (take i text)) (drop_of_length-le text past) ∙ split_none (take i text)

-- what a text has of a character, taken a part further
count-more : (x : ℕ) (text : Text) (i n : ℕ) → count x (take (i + n) text) ≡ count x (take i text) + count x (take n (drop i text))
count-more x text i n = ap (count x) (take-add i n text) ∙ sum_by-append (λ c. weight (c == x)) (take i text) (take n (drop i text))

-- what the next characters have of it, the first of them apart
count-first : (x : ℕ) (text : Text) (i n : ℕ) → i < length text → count x (take (suc n) (drop i text)) ≡ weight (get_or text i 0 == x) + count x (take n (drop (i + 1) text))
count-first x text i n within =
    ap (λ rest. count x (take (suc n) rest)) (drop_more text i 0 within)
    ∙ sum_by-cons (λ c. weight (c == x)) (get_or text i 0) (take n (drop (i + 1) text))

-- where no more right parentheses follow than are open none of them matches
pub passes-closed : (text : Text) (n i depth : ℕ) → i + n ≤ length text → count 41 (take n (drop i text)) ≤ depth → IsAt text i depth → (later : ℕ) × IsAt text (i + n) later
passes-closed text zero i depth within few at = (depth, let same : i + 0 ≡ i = omega arith in subst (λ k. IsAt text k depth) (sym same) at)
passes-closed text (suc n) i depth within few at =
    let c = get_or text i 0 in
    let here : i < length text = omega arith in
    let next : i + 1 + n ≡ i + suc n = omega arith in
    let rights = count-first 41 text i n here in
    let on = λ (depth : ℕ) (less : count 41 (take n (drop (i + 1) text)) ≤ depth) (at : IsAt text (i + 1) depth). subst (λ k. (later : ℕ) × IsAt text k later) next (passes-closed text n (i + 1) depth (omega arith) less at) in
    ⊎_elim
    (λ right. let one : weight (c == 41) ≡ 1 = ap weight right in on (depth - 1) (omega (arith, few, rights, one)) (passes-right text i depth c here refl at (eqb-true c 41 right) (omega (arith, few, rights, one))))
    (λ wrong. let none : weight (c == 41) ≡ 0 = ap weight wrong in
    ⊎_elim
    (λ left. on (depth + 1) (omega (arith, few, rights, none)) (passes-left text i depth c here refl at (eqb-true c 40 left)))
    (λ other. on depth (omega (arith, few, rights, none)) (passes-other text i depth c here refl at (differs c 40 other) (differs c 41 wrong)))
    (cases_Bool (c == 40)))
    (cases_Bool (c == 41))
  where
    differs : (c b : ℕ) → (c == b) ≡ false → c ≢ b
    differs c b wrong e = let yes : (c == b) ≡ true = eq-eqb c b e in cc

pub side-small : (c : ℕ) → side_of c ≤ 16
side-small c = grind (arith, nat_tests)

-- what it says of a character, by what the character is
side-is : (c : ℕ) → side_of c ≡ weight (c == 40) + 16 * weight (c == 41)
side-is c =
    ⊎_elim
    (λ left. subst (λ c. side_of c ≡ weight (c == 40) + 16 * weight (c == 41)) (sym (eqb-true c 40 left)) refl)
    (λ other. rw other (right (c == 41)))
    (cases_Bool (c == 40))
  where
    right : (b : Bool) → ◌≡◌ {A = ℕ} (if b then 16 else 0) (0 + 16 * weight b)
    right true = refl
    right false = refl

-- what the table of parentheses says of cells
sides-count : (cells : List Cell) → sum_by side_in cells ≡ count 40 (text_of_cells cells) + 16 * count 41 (text_of_cells cells)
sides-count [] = refl
sides-count (cell ∷ cells) =
    let c = character_of cell in
    let lefts = sum_by-cons (λ c. weight (c == 40)) c (text_of_cells cells) in
    let rights = sum_by-cons (λ c. weight (c == 41)) c (text_of_cells cells) in
    omega (arith, sum_by-cons side_in cell cells, sides-count cells, lefts, rights, side-is c)

-- what the table of sides gives for eight characters tells how many of them are left and right parentheses
sides-eight : (cells : List Cell) (i sides : ℕ) → sides ≡ sum_by side_in (take 8 (drop i cells)) → (sides % 16 ≡ count 40 (take 8 (drop i (text_of_cells cells)))) × (sides / 16 ≡ count 41 (take 8 (drop i (text_of_cells cells)))) × (sides % 16 ≤ 8)
sides-eight cells i sides is =
    let text = text_of_cells cells in
    let part = take 8 (drop i text) in
    let same : text_of_cells (take 8 (drop i cells)) ≡ part = take-text 8 (drop i cells) ∙ ap (take 8) (drop-text i cells) in
    let few : count 40 part ≤ 8 = omega (arith, count_by-le-length (λ c. c == 40) part, length-take 8 (drop i text)) in
    let sum : sides ≡ count 40 part + 16 * count 41 part = is ∙ sides-count (take 8 (drop i cells)) ∙ ap (λ t. count 40 t + 16 * count 41 t) same in
    (omega arith, omega arith, omega arith)

-- eight characters with no more right parentheses than are open
pub passes-few : (cells : List Cell) (i depth sides : ℕ) → i + 8 ≤ length cells → sides ≡ sum_by side_in (take 8 (drop i cells)) → IsAt (text_of_cells cells) i depth → sides / 16 ≤ depth → (later : ℕ) × IsAt (text_of_cells cells) (i + 8) later
passes-few cells i depth sides within is at few =
    let long : length (text_of_cells cells) ≡ length cells = length-map cells character_of in
    let rights = (sides-eight cells i sides is).1 in
    passes-closed (text_of_cells cells) 8 i depth (omega arith) (omega arith) at

-- how many are open after eight characters without a match among them
pub passes-block : (cells : List Cell) (i depth sides : ℕ) → sides ≡ sum_by side_in (take 8 (drop i cells)) → IsAt (text_of_cells cells) i depth → (later : ℕ) × IsAt (text_of_cells cells) (i + 8) later → (sides / 16 ≤ depth + sides % 16) × IsAt (text_of_cells cells) (i + 8) (depth + sides % 16 - sides / 16) × (sides % 16 ≤ 8)
passes-block cells i depth sides is at after =
    let text = text_of_cells cells in
    let found = sides-eight cells i sides is in
    let lefts = count-more 40 text i 8 in
    let rights = count-more 41 text i 8 in
    let later : after.0 ≡ depth + sides % 16 - sides / 16 = omega arith in
    (omega arith, subst (IsAt text (i + 8)) later after.1, found.2)
