-- The row of the table of scanning rules, by the first characters, as a scanner tells them.
use Rattle.trac_core.proofs.Imports.{if◌then◌else◌, IsOrdinary, is_special, Bool, true, false, codes, bytes_eq, is_layout, number_sign_rule, BeginArgument, BeginCall, DeleteLayout, EndCall, Active, ◌==◌, ◌≡◌, ◌≢◌, ℕ, zero, suc, ◌+◌, ◌-◌, ◌<◌, ◌≤◌, List, [], ◌∷◌, length, take, drop, map, Option, Some, None, refl, sym, ap, ◌∙◌, arith, slice_get, slice_range, ne_eqb, take-length, Text, protected, AddCharacter, parenthesis_rule, rule, Cell, Call, seen, Neutral, no_neutral, with_cell, with_cells, neutral_of, text_of_cells}
use Rattle.trac_language.specs.declared.mode.Mode.TheVariants.{Neutral as NeutralMode}
use Rattle.trac_laws.proofs.Rules.{rule_comma, rule_end, rule_active, rule_neutral, rule_other}
use Rattle.trac_core.specs.declared.rules.ScanningRule.{ScanningRule}
use Rattle.trac_core.specs.declared.rules.ScanningRule.TheVariants as row
use Rattle.trac_core.specs.Rules.{Begins, IsFirstOf, Opens}
use Rattle.trac_core.specs.View.{dropped, row_of, stops_before, steps_before_call, taken, taken_in_row}
use Rattle.std.proofs.lemmas.List.{drop-drop, length-take}
use Rattle.std.proofs.lemmas.Slice.Eq.{bytes_eq-Decides}
use Rattle.trac_core.proofs.Scanning.{first-rest, second-rest, third-rest, not-layout, rule-layout, rule-parenthesis, rule-nothing}
use Rattle.trac_core.proofs.StepsInRow.{ordinary-layout, ordinary-not}

-- where the rule is this one for each text that begins with c
row-first : (text : Text) (c : ℕ) → slice_get text 0 ≡ Some c → rule text ≡ rule (c ∷ drop 1 text)
row-first text c first = ap rule (first-rest text c first)

parenthesis-row : (o : Option (Text × Text)) → row.Protection ≡ row_of (parenthesis_rule o)
parenthesis-row None = refl
parenthesis-row (Some parts) = refl

character-row : (c : ℕ) (rest : Text) → IsOrdinary c → row.Character ≡ row_of (AddCharacter c rest)
character-row c rest ordinary = simp (ne_eqb c 35 (ordinary-not c 35 ordinary refl))

-- the row of the rule that fits, by what the text begins with
pub row-begins : (r : ScanningRule) (text : Text) → Begins r text → r ≡ row_of (rule text)
row-begins row.Idling text none = ap row_of (sym (ap rule none ∙ rule-nothing))
row-begins row.Layout text first = ap row_of (sym (row-first text first.0 first.1.0 ∙ rule-layout first.0 (drop 1 text) first.1.1))
row-begins row.Protection text first =
    let o = protected (drop 1 text) in
    parenthesis-row o ∙ ap row_of (sym (row-first text 40 first ∙ rule-parenthesis (drop 1 text) o refl))
row-begins row.Argument text first = ap row_of (sym (row-first text 44 first ∙ rule_comma (drop 1 text)))
row-begins row.ActiveCall text opens = ap row_of (sym opens.0)
row-begins row.NeutralCall text opens = ap row_of (sym opens.0)
row-begins row.NumberSign text sign = ap row_of (sym sign.1)
row-begins row.EndOfCall text first = ap row_of (sym (row-first text 41 first ∙ rule_end (drop 1 text)))
row-begins row.Character text first =
    let c = first.0 in
    let ordinary = first.1.1 in
    let layout = not-layout c (ordinary-layout c ordinary) in
    let not = λ (b : ℕ) (special : is_special b ≡ true). ordinary-not c b ordinary special in
    character-row c (drop 1 text) ordinary
    ∙ ap row_of (sym (row-first text c first.1.0 ∙ rule_other c (drop 1 text) layout.0 layout.1 layout.2 (not 40 refl) (not 44 refl) (not 35 refl) (not 41 refl)))

pub begins-nothing : (cells : List Cell) → slice_get cells 0 ≡ None → Begins row.Idling (text_of_cells cells)
begins-nothing [] e = refl
begins-nothing (cell ∷ cells) e = absurd cc

-- a character whose rule is this one whatever follows it
pub begins-first : (r : ScanningRule) (text : Text) (c : ℕ) → slice_get text 0 ≡ Some c → IsFirstOf r c → r ≢ row.NumberSign → Begins r text
begins-first row.Idling text c first is sign = absurd is
begins-first row.Layout text c first is sign = (c, (first, is))
begins-first row.Protection text c first is sign = first ∙ ap Some is
begins-first row.Argument text c first is sign = first ∙ ap Some is
begins-first row.ActiveCall text c first is sign = absurd is
begins-first row.NeutralCall text c first is sign = absurd is
begins-first row.NumberSign text c first is sign = absurd (sign refl)
begins-first row.EndOfCall text c first is sign = first ∙ ap Some is
begins-first row.Character text c first is sign = (c, (first, is))

-- a character that has a rule of its own
pub special-first : (r : ScanningRule) (c : ℕ) → IsFirstOf r c → r ≢ row.Character → true ≡ is_special c
special-first row.Idling c is other = absurd is
special-first row.Layout c is other = rw is refl
special-first row.Protection c is other = rw is refl
special-first row.Argument c is other = rw is refl
special-first row.ActiveCall c is other = absurd is
special-first row.NeutralCall c is other = absurd is
special-first row.NumberSign c is other = rw is refl
special-first row.EndOfCall c is other = rw is refl
special-first row.Character c is other = absurd (other refl)

-- one that is no layout
pub layout-first : (r : ScanningRule) (c : ℕ) → IsFirstOf r c → r ≢ row.Layout → false ≡ is_layout c
layout-first row.Idling c is other = absurd is
layout-first row.Layout c is other = absurd (other refl)
layout-first row.Protection c is other = rw is refl
layout-first row.Argument c is other = rw is refl
layout-first row.ActiveCall c is other = absurd is
layout-first row.NeutralCall c is other = absurd is
layout-first row.NumberSign c is other = rw is refl
layout-first row.EndOfCall c is other = rw is refl
layout-first row.Character c is other = sym (ordinary-layout c is)

-- the characters that open a call are as many as there are
pub opens-active : (text : Text) → slice_get text 0 ≡ Some 35 → slice_get text 1 ≡ Some 40 → Opens Active 2 text
opens-active text first second =
    let is = second-rest text 35 40 first second in
    (ap rule is ∙ rule_active (drop 2 text), omega (arith, ap (λ t. length t) is))

pub opens-neutral : (text : Text) → slice_get text 0 ≡ Some 35 → slice_get text 1 ≡ Some 35 → slice_get text 2 ≡ Some 40 → Opens NeutralMode 3 text
opens-neutral text first second third =
    let is = third-rest text 35 35 40 first second third in
    (ap rule is ∙ rule_neutral (drop 3 text), omega (arith, ap (λ t. length t) is))

-- ---- what a rule drops

sign-drops : (active neutral : Bool) (n : ℕ) (a b c : Text) → 0 ≡ dropped (if active then BeginCall Active a else (if neutral then BeginCall NeutralMode b else AddCharacter 35 c)) n
sign-drops true neutral n a b c = refl
sign-drops false true n a b c = refl
sign-drops false false n a b c = refl

other-drops : (layout comma sign close : Bool) (n c : ℕ) (rest : Text) → 0 ≡ dropped (if layout then DeleteLayout rest else (if comma then BeginArgument rest else (if sign then number_sign_rule rest else (if close then EndCall rest else AddCharacter c rest)))) n
other-drops true comma sign close n c rest = refl
other-drops false true sign close n c rest = refl
other-drops false false true close n c rest =
    sign-drops (bytes_eq (take 1 rest) (codes "(")) (bytes_eq (take 2 rest) (codes "#(")) n (drop 1 rest) (drop 2 rest) rest
other-drops false false false true n c rest = refl
other-drops false false false false n c rest = refl

-- only a left parenthesis drops any
pub dropped-other : (text : Text) (n : ℕ) → slice_get text 0 ≢ Some 40 → 0 ≡ dropped (rule text) n
unfolding rule
dropped-other [] n differs = refl
dropped-other (c ∷ rest) n differs =
    let other : (c == 40) ≡ false = ne_eqb c 40 (λ e. differs (ap Some e)) in
    rw other (other-drops (is_layout c) (c == 44) (c == 35) (c == 41) n c rest)

-- one without a match drops all, another none
pub dropped-parenthesis : (text : Text) (o : Option (Text × Text)) (n : ℕ) → slice_get text 0 ≡ Some 40 → protected (drop 1 text) ≡ o → dropped (parenthesis_rule o) n ≡ dropped (rule text) n
dropped-parenthesis text o n first is =
    ap (λ r. dropped r n) (sym (row-first text 40 first ∙ rule-parenthesis (drop 1 text) o is))

-- ---- what a rule takes

sign-takes : (active neutral : Bool) (n : ℕ) (a b c : Text) → let r = if active then BeginCall Active a else (if neutral then BeginCall NeutralMode b else AddCharacter 35 c) in taken_in_row (row_of r) ≡ taken r n
sign-takes true neutral n a b c = refl
sign-takes false true n a b c = refl
sign-takes false false n a b c = refl

other-takes : (layout comma sign close : Bool) (n c : ℕ) (rest : Text) → let r = if layout then DeleteLayout rest else (if comma then BeginArgument rest else (if sign then number_sign_rule rest else (if close then EndCall rest else AddCharacter c rest))) in taken_in_row (row_of r) ≡ taken r n
other-takes true comma sign close n c rest = refl
other-takes false true sign close n c rest = refl
other-takes false false true close n c rest =
    sign-takes (bytes_eq (take 1 rest) (codes "(")) (bytes_eq (take 2 rest) (codes "#(")) n (drop 1 rest) (drop 2 rest) rest
other-takes false false false true n c rest = refl
other-takes false false false false n c rest = refl

-- where no left parenthesis stands first it is what the row says
pub taken-other : (text : Text) (n : ℕ) → slice_get text 0 ≢ Some 40 → taken_in_row (row_of (rule text)) ≡ taken (rule text) n
unfolding rule
taken-other [] n differs = refl
taken-other (c ∷ rest) n differs =
    let other : (c == 40) ≡ false = ne_eqb c 40 (λ e. differs (ap Some e)) in
    rw other (other-takes (is_layout c) (c == 44) (c == 35) (c == 41) n c rest)

-- a text in parentheses is taken with both, and all where there is no match
pub taken-parenthesis : (text : Text) (o : Option (Text × Text)) (n : ℕ) → slice_get text 0 ≡ Some 40 → protected (drop 1 text) ≡ o → taken (parenthesis_rule o) n ≡ taken (rule text) n
taken-parenthesis text o n first is =
    ap (λ r. taken r n) (sym (row-first text 40 first ∙ rule-parenthesis (drop 1 text) o is))

sign-row : (sign : Bool) → taken_in_row (if sign then row.NumberSign else row.Character) ≡ 1
sign-row true = refl
sign-row false = refl

sign-within : (active neutral : Bool) (n : ℕ) (a b c : Text) → (active ≡ true → 2 ≤ n) → (neutral ≡ true → 3 ≤ n) → 1 ≤ n → taken_in_row (row_of (if active then BeginCall Active a else (if neutral then BeginCall NeutralMode b else AddCharacter 35 c))) ≤ n
sign-within true neutral n a b c two three one = two refl
sign-within false true n a b c two three one = three refl
sign-within false false n a b c two three one = one

other-within : (layout opens comma sign close : Bool) (c : ℕ) (rest : Text) (o : Option (Text × Text)) → taken_in_row (row_of (if layout then DeleteLayout rest else (if opens then parenthesis_rule o else (if comma then BeginArgument rest else (if sign then number_sign_rule rest else (if close then EndCall rest else AddCharacter c rest)))))) ≤ suc (length rest)
other-within true opens comma sign close c rest o = omega arith
other-within false true comma sign close c rest None = omega arith
other-within false true comma sign close c rest (Some parts) = omega arith
other-within false false true sign close c rest o = omega arith
other-within false false false true close c rest o =
    let prefix = λ (k : ℕ) (t : Text) (is : bytes_eq (take k rest) t ≡ true). ap (λ t. length t) ((bytes_eq-Decides (take k rest) t).0 is) in
    sign-within (bytes_eq (take 1 rest) (codes "(")) (bytes_eq (take 2 rest) (codes "#(")) (suc (length rest)) (drop 1 rest) (drop 2 rest) rest
    (λ is. omega (arith, length-take 1 rest, prefix 1 (codes "(") is)) (λ is. omega (arith, length-take 2 rest, prefix 2 (codes "#(") is)) (omega arith)
other-within false false false false true c rest o = omega arith
other-within false false false false false c rest o = omega (arith, sign-row (c == 35))

-- no more is taken so than there is
pub taken-within : (text : Text) → taken_in_row (row_of (rule text)) ≤ length text
unfolding rule
taken-within [] = omega arith
taken-within (c ∷ rest) = other-within (is_layout c) (c == 40) (c == 44) (c == 35) (c == 41) c rest (protected rest)

-- ---- the steps before a call

pub steps-end : (n : ℕ) (text : Text) → stops_before (row_of (rule text)) ≡ true → steps_before_call n text ≡ 0
unfolding steps_before_call
steps-end zero text e = refl
steps-end (suc n) text e = rw (e, steps_before_call) refl

steps-on : (n : ℕ) (text : Text) → stops_before (row_of (rule text)) ≡ false → steps_before_call (suc n) text ≡ 1 + steps_before_call n (drop (taken (rule text) (length text)) text)
unfolding steps_before_call
steps-on n text e = rw (e, steps_before_call) refl

pub steps-none : (text : Text) → steps_before_call 0 text ≡ 0
unfolding steps_before_call
steps-none text = refl

-- one step more from a place on
pub steps-more : (most steps place took : ℕ) (text : Text) → steps < most → stops_before (row_of (rule (drop place text))) ≡ false → took ≡ taken (rule (drop place text)) (length (drop place text)) → (steps + 1) + steps_before_call (most - (steps + 1)) (drop (place + took) text) ≡ steps + steps_before_call (most - steps) (drop place text)
steps-more most steps place took text less goes is =
    let n = most - (steps + 1) in
    let rest = drop place text in
    let more : most - steps ≡ suc n = omega arith in
    let left : drop (place + took) text ≡ drop (taken (rule rest) (length rest)) rest = sym (drop-drop took place text) ∙ ap (λ k. drop k rest) is in
    let one = ap (λ k. steps_before_call k rest) more ∙ steps-on n rest goes in
    omega (arith, ap (λ t. steps_before_call n t) left, one)

-- the number in a call mark makes no difference to the neutral string
with_cell-seen : (n : Neutral) (cell : Cell) → with_cell n (seen cell) ≡ with_cell n cell
with_cell-seen n (Call mode k) = refl
with_cell-seen n _ = refl

with_cells-seen : (n : Neutral) (cells : List Cell) → with_cells n (map seen cells) ≡ with_cells n cells
with_cells-seen n [] = refl
with_cells-seen n (cell ∷ cells) =
    ap (λ (m : Neutral). with_cells m (map seen cells)) (with_cell-seen n cell) ∙ with_cells-seen (with_cell n cell) cells

pub neutral_of-seen : (cells : List Cell) → neutral_of (map seen cells) ≡ neutral_of cells
neutral_of-seen cells = with_cells-seen no_neutral cells

-- the part from the first cell up to the last is all of them
pub whole-range : (cells : List Cell) → slice_range cells 0 (length cells) ≡ cells
whole-range cells =
    let all : length cells - 0 ≡ length cells = omega arith in
    ap (λ n. take n cells) all ∙ take-length cells
