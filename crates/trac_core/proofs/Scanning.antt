-- The rules that perform no call, over the contents of a workspace.
use Rattle.trac_core.proofs.Imports.{length-map, get_or-map, get_or, seen, ◌≡◌, ◌≢◌, ℕ, ◌+◌, ◌-◌, ◌<◌, true, false, List, [], ◌∷◌, ◌++◌, length, take, drop, map, All, Option, Some, None, refl, sym, ap, ◌∙◌, subst, ⊎_elim, arith, slice_get, MatchOption, is_some, slice_range, cases_eq, drop-map, take-map, length-drop, drop-drop, All-take, All-drop, take-length, Mode, Text, Form, cells, protected, Input, OpenCall, add, begin_argument, Rule, LoadIdling, DeleteLayout, AddProtected, ClearActive, BeginArgument, BeginCall, EndCall, AddCharacter, parenthesis_rule, is_layout, rule, Next, idling, follow, end_need, need_by, step, need, reads_last_by, Cell, Byte, Call, Comma, NoCall, IsLastCall, flat_text, text_of_cells, character_of, IsByte, Contents, used, IsSound, Neutral, with_cell, neutral_of, memory_with, memory_of, state_with, Scans, size, State, call_performed_by, ending}
use Rattle.std.proofs.lemmas.List.{take_all}
use Rattle.trac_laws.proofs.Rules.{rule_comma, rule_end, rule_sign_last, rule_two_signs_last, rule_sign, rule_two_signs, rule_other}
use Rattle.trac_functions.proofs.FlatLemmas.{with_cells-append, neutral_of-push, neutral_of-innermost, size-used, with_cells-text, calls-none}
use Rattle.trac_functions.proofs.ArgumentLemmas.{flat-bytes, text_of_cells-seen}

-- ---- texts

pub first-rest : (text : Text) (c : ℕ) → slice_get text 0 ≡ Some c → text ≡ c ∷ drop 1 text
first-rest [] c e = absurd cc
first-rest (b ∷ text) c e = let same : b ≡ c = cc in ap (λ b. b ∷ text) same

pub drop-text : (n : ℕ) (cells : List Cell) → text_of_cells (drop n cells) ≡ drop n (text_of_cells cells)
drop-text n cells = sym (drop-map character_of n cells)

pub take-text : (n : ℕ) (cells : List Cell) → text_of_cells (take n cells) ≡ take n (text_of_cells cells)
take-text n cells = sym (take-map character_of n cells)

-- the text of the cells from a place on
pub text-from : (n : ℕ) (cells : List Cell) → text_of_cells (take (length cells - n) (drop n cells)) ≡ drop n (text_of_cells cells)
text-from n cells = ap text_of_cells (take_all (length cells - n) (drop n cells) (omega (arith, length-drop n cells))) ∙ drop-text n cells

-- a character that was read of the cells is one of their text
pub read-text : (cells : List Cell) (i c : ℕ) → i < length cells → c ≡ character_of (get_or cells i (Byte 0)) → (i < length (text_of_cells cells)) × (c ≡ get_or (text_of_cells cells) i 0)
read-text cells i c within is = (omega (arith, length-map cells character_of), is ∙ sym (get_or-map character_of cells i (Byte 0) 0 within))

pub some-active : (cells : List Cell) (c : ℕ) → slice_get (text_of_cells cells) 0 ≡ Some c → 0 < length cells
some-active [] c e = absurd cc
some-active (cell ∷ cells) c e = omega arith

-- ---- a step by a rule

module _ (old new : Contents) where
  text : Text
  text = text_of_cells old.active

  -- a step by this rule
  pub scans-by : (r : Rule) (needed : ℕ) → rule (text_of_cells old.active) ≡ r → ((meta : ℕ) (input : Input) (output : Text) → follow r (state_with (memory_of meta old) input output) ≡ Next (state_with (memory_of meta new) input output)) → ((meta : ℕ) (input : Input) (output : Text) → need_by r (state_with (memory_of meta old) input output) ≡ needed) → ((meta : ℕ) (input : Input) (output : Text) → reads_last_by r (state_with (memory_of meta old) input output) ≡ false) → ((meta : ℕ) → call_performed_by r (memory_of meta old).calls ≡ None) → Scans old new needed
  unfolding step need
  scans-by r needed fits goes needs reads no_call = record {
    goes = λ meta input output. ap (λ r. follow r (state_with (memory_of meta old) input output)) fits ∙ goes meta input output;
    needs = λ meta input output. ap (λ r. need_by r (state_with (memory_of meta old) input output)) fits ∙ needs meta input output;
    reads = λ meta input output. ap (λ r. reads_last_by r (state_with (memory_of meta old) input output)) fits ∙ reads meta input output;
    no_call = λ meta. ap (λ r. call_performed_by r (memory_of meta old).calls) fits ∙ no_call meta;
  }

  -- one that needs no more cells than there are, and reads nothing
  scans-quiet : (r : Rule) → rule (text_of_cells old.active) ≡ r → ((meta : ℕ) (input : Input) (output : Text) → follow r (state_with (memory_of meta old) input output) ≡ Next (state_with (memory_of meta new) input output)) → ((s : State) → (need_by r s ≡ size s.memory) × ((reads_last_by r s ≡ false) × (call_performed_by r s.memory.calls ≡ None))) → Scans old new (used old)
  scans-quiet r fits goes quiet =
      scans-by r (used old) fits goes (λ meta input output. (quiet (state_with (memory_of meta old) input output)).0 ∙ size-used meta old) (λ meta input output. (quiet (state_with (memory_of meta old) input output)).1.0)
      (λ meta. (quiet (state_with (memory_of meta old) (ending []) [])).1.1)

pub rule-layout : (c : ℕ) (rest : Text) → is_layout c ≡ true → rule (c ∷ rest) ≡ DeleteLayout rest
unfolding rule
rule-layout c rest h = rw h refl

pub rule-parenthesis : (text : Text) (o : Option (Text × Text)) → protected text ≡ o → rule (40 ∷ text) ≡ parenthesis_rule o
unfolding rule
rule-parenthesis rest o e = ap parenthesis_rule e

pub rule-nothing : rule [] ≡ LoadIdling
unfolding rule
rule-nothing = refl

pub scans-layout : (old : Contents) (c : ℕ) → slice_get (text_of_cells old.active) 0 ≡ Some c → is_layout c ≡ true → Scans old (record old { active = drop 1 old.active }) (used old)
scans-layout old c first layout =
    scans-quiet old _ (DeleteLayout (drop 1 (text_of_cells old.active))) (ap rule (first-rest _ c first) ∙ rule-layout c _ layout)
    (λ meta input output. rw (drop-text 1 old.active) refl) (λ s. (refl, (refl, refl)))

pub scans-parenthesis : (old : Contents) → slice_get (text_of_cells old.active) 0 ≡ Some 41 → NoCall old.neutral → Scans old (record old { active = drop 1 old.active }) (used old)
scans-parenthesis old first none =
    let calls = calls-none old.neutral none in
    scans-by old _ (EndCall (drop 1 (text_of_cells old.active))) (used old) (ap rule (first-rest _ 41 first) ∙ rule_end _)
    (λ meta input output. rw (drop-text 1 old.active, calls) refl) (λ meta input output. ap (λ calls. end_need calls (state_with (memory_of meta old) input output)) calls ∙ size-used meta old) (λ meta input output. rw calls refl) (λ meta. rw calls refl)

pub scans-unmatched : (old : Contents) → slice_get (text_of_cells old.active) 0 ≡ Some 40 → protected (drop 1 (text_of_cells old.active)) ≡ None → Scans old (record old { active = [] }) (used old)
scans-unmatched old first none =
    scans-quiet old _ ClearActive (ap rule (first-rest _ 40 first) ∙ rule-parenthesis _ None none) (λ meta input output. refl) (λ s. (refl, (refl, refl)))

-- characters at the end of neutral are a text added
added-bytes : (old : List Cell) (more : List Cell) (active : Text) (forms : List Form) (meta : ℕ) → All IsByte more → memory_with (neutral_of (old ++ more)) active forms meta ≡ add (text_of_cells more) (memory_with (neutral_of old) active forms meta)
added-bytes old more active forms meta bytes =
    ap (λ cells. memory_with (neutral_of (old ++ cells)) active forms meta) (sym (flat-bytes more bytes))
    ∙ ap (λ (n : Neutral). memory_with n active forms meta) (with_cells-append _ old (flat_text (text_of_cells more)))
    ∙ with_cells-text (text_of_cells more) (neutral_of old) active forms meta

pub scans-protected : (old : Contents) (len : ℕ) → IsSound old → slice_get (text_of_cells old.active) 0 ≡ Some 40 → protected (drop 1 (text_of_cells old.active)) ≡ Some (take len (drop 1 (text_of_cells old.active)), drop (len + 1) (drop 1 (text_of_cells old.active))) → Scans old (record old { neutral = old.neutral ++ take len (drop 1 old.active); active = drop 1 (drop len (drop 1 old.active)) }) (used old)
scans-protected old len sound first found =
    let t = text_of_cells old.active in
    let inside = take len (drop 1 t) in
    let rest = drop (len + 1) (drop 1 t) in
    let cells = take len (drop 1 old.active) in
    let inside_is : text_of_cells cells ≡ inside = take-text len (drop 1 old.active) ∙ ap (take len) (drop-text 1 old.active) in
    let rest_is : text_of_cells (drop 1 (drop len (drop 1 old.active))) ≡ rest = drop-text 1 (drop len (drop 1 old.active)) ∙ ap (drop 1) (drop-text len (drop 1 old.active) ∙ ap (drop len) (drop-text 1 old.active)) ∙ drop-drop 1 len (drop 1 t) in
    let bytes : All IsByte cells = All-take IsByte len (drop 1 old.active) (All-drop IsByte 1 old.active sound.active) in
    scans-quiet old _ (AddProtected inside rest) (ap rule (first-rest t 40 first) ∙ rule-parenthesis (drop 1 t) (Some (inside, rest)) found)
    (λ meta input output. rw rest_is (sym (ap (λ m. Next (state_with m input output)) (added-bytes old.neutral cells rest old.forms meta bytes ∙ ap (λ t. add t (memory_with (neutral_of old.neutral) rest old.forms meta)) inside_is))))
    (λ s. (refl, (refl, refl)))

-- with a comma mark an argument of the innermost call begins
comma-memory : (n : Neutral) (call : OpenCall) (outer : List OpenCall) → n.calls ≡ call ∷ outer → with_cell n Comma ≡ record n { calls = begin_argument n.calls }
comma-memory n call outer e = rw e refl

pub scans-comma : (old : Contents) (place : ℕ) → slice_get (text_of_cells old.active) 0 ≡ Some 44 → IsLastCall old.neutral place → Scans old (record old { active = drop 1 old.active; neutral = old.neutral ++ Comma ∷ [] }) (used old)
scans-comma old place first last =
    let n = neutral_of old.neutral in
    let calls = ap (λ (n : Neutral). n.calls) (neutral_of-innermost old.neutral place last) in
    scans-quiet old _ (BeginArgument (drop 1 (text_of_cells old.active))) (ap rule (first-rest _ 44 first) ∙ rule_comma _)
    (λ meta input output. rw (drop-text 1 old.active, neutral_of-push old.neutral Comma, comma-memory n _ _ calls) refl) (λ s. (refl, (refl, refl)))

pub scans-comma-none : (old : Contents) → slice_get (text_of_cells old.active) 0 ≡ Some 44 → NoCall old.neutral → Scans old (record old { active = drop 1 old.active }) (used old)
scans-comma-none old first none =
    scans-quiet old _ (BeginArgument (drop 1 (text_of_cells old.active))) (ap rule (first-rest _ 44 first) ∙ rule_comma _)
    (λ meta input output. rw (drop-text 1 old.active, calls-none old.neutral none) refl) (λ s. (refl, (refl, refl)))

-- a mark opens a call
pub scans-call : (old : Contents) (mode : Mode) (n : ℕ) → rule (text_of_cells old.active) ≡ BeginCall mode (drop n (text_of_cells old.active)) → Scans old (record old { active = drop n old.active; neutral = old.neutral ++ Call mode 0 ∷ [] }) (used old)
scans-call old mode n fits =
    scans-quiet old _ (BeginCall mode (drop n (text_of_cells old.active))) fits
    (λ meta input output. rw (drop-text n old.active, neutral_of-push old.neutral (Call mode 0)) refl) (λ s. (refl, (refl, refl)))

pub second-rest : (text : Text) (b c : ℕ) → slice_get text 0 ≡ Some b → slice_get text 1 ≡ Some c → text ≡ b ∷ c ∷ drop 2 text
second-rest [] b c e f = absurd cc
second-rest (x ∷ []) b c e f = absurd cc
second-rest (x ∷ y ∷ text) b c e f = let first : x ≡ b = cc in let second : y ≡ c = cc in rw (first, second) refl

pub third-rest : (text : Text) (b c d : ℕ) → slice_get text 0 ≡ Some b → slice_get text 1 ≡ Some c → slice_get text 2 ≡ Some d → text ≡ b ∷ c ∷ d ∷ drop 3 text
third-rest [] b c d e f g = absurd cc
third-rest (x ∷ []) b c d e f g = absurd cc
third-rest (x ∷ y ∷ []) b c d e f g = absurd cc
third-rest (x ∷ y ∷ z ∷ text) b c d e f g = let first : x ≡ b = cc in let second : y ≡ c = cc in let third : z ≡ d = cc in rw (first, second, third) refl

-- the first character goes to the end of neutral
pub scans-first : (old : Contents) (c : ℕ) → rule (text_of_cells old.active) ≡ AddCharacter c (drop 1 (text_of_cells old.active)) → Scans old (record old { active = drop 1 old.active; neutral = old.neutral ++ Byte c ∷ [] }) (used old)
scans-first old c fits =
    scans-quiet old _ (AddCharacter c (drop 1 (text_of_cells old.active))) fits
    (λ meta input output. rw (drop-text 1 old.active, neutral_of-push old.neutral (Byte c)) (sym (ap (λ m. Next (state_with m input output)) (with_cells-text (c ∷ []) (neutral_of old.neutral) (drop 1 (text_of_cells old.active)) old.forms meta))))
    (λ s. (refl, (refl, refl)))

-- a number sign that opens no call
pub sign-rule : (text : Text) → slice_get text 0 ≡ Some 35 → slice_get text 1 ≢ Some 40 → (slice_get text 1 ≡ Some 35 → slice_get text 2 ≢ Some 40) → rule text ≡ AddCharacter 35 (drop 1 text)
sign-rule [] first second third = absurd cc
sign-rule (b ∷ []) first second third = let e : b ≡ 35 = cc in ap (λ b. rule (b ∷ [])) e ∙ rule_sign_last
sign-rule (b ∷ c ∷ []) first second third =
    let e : b ≡ 35 = cc in
    let opens : c ≢ 40 = λ f. second (ap Some f) in
    ap (λ b. rule (b ∷ c ∷ [])) e
    ∙ ⊎_elim
    (λ same. ap (λ c. rule (35 ∷ c ∷ [])) same ∙ rule_two_signs_last ∙ ap (λ c. AddCharacter 35 (c ∷ [])) (sym same))
    (λ other. rule_sign c [] opens other)
    (cases_eq c 35)
sign-rule (b ∷ c ∷ d ∷ text) first second third =
    let e : b ≡ 35 = cc in
    let opens : c ≢ 40 = λ f. second (ap Some f) in
    ap (λ b. rule (b ∷ c ∷ d ∷ text)) e
    ∙ ⊎_elim
    (λ same.
    let later : d ≢ 40 = λ f. third (ap Some same) (ap Some f) in
    ap (λ c. rule (35 ∷ c ∷ d ∷ text)) same ∙ rule_two_signs d text later ∙ ap (λ c. AddCharacter 35 (c ∷ d ∷ text)) (sym same))
    (λ other. rule_sign c (d ∷ text) opens other)
    (cases_eq c 35)

-- a character that isn't layout
layout-not : (c b : ℕ) → is_layout c ≡ false → is_layout b ≡ true → c ≢ b
layout-not c b h layout e = let f : is_layout b ≡ false = subst (λ c. is_layout c ≡ false) e h in cc

pub not-layout : (c : ℕ) → is_layout c ≡ false → (c ≢ 9) × (c ≢ 10) × (c ≢ 13)
not-layout c h = (layout-not c 9 h refl, layout-not c 10 h refl, layout-not c 13 h refl)

pub scans-other : (old : Contents) (c : ℕ) → slice_get (text_of_cells old.active) 0 ≡ Some c → is_layout c ≡ false → c ≢ 40 → c ≢ 41 → c ≢ 44 → c ≢ 35 → Scans old (record old { active = drop 1 old.active; neutral = old.neutral ++ Byte c ∷ [] }) (used old)
scans-other old c first layout opens closes comma sign =
    let l = not-layout c layout in
    scans-first old c (ap rule (first-rest _ c first) ∙ rule_other c _ l.0 l.1 l.2 opens comma sign closes)

-- the idling procedure is loaded
pub scans-idling : (old : Contents) → old.active ≡ [] → Scans old (record old { neutral = []; active = map Byte idling }) (cells old.forms + 11)
scans-idling old none =
    scans-by old _ LoadIdling (cells old.forms + 11) (ap (λ a. rule (text_of_cells a)) none ∙ rule-nothing) (λ meta input output. refl) (λ meta input output. refl) (λ meta input output. refl) (λ meta. refl)

pub idling-need : (old : Contents) → old.active ≡ [] → (meta : ℕ) (input : Input) (output : Text) → need (state_with (memory_of meta old) input output) ≡ cells old.forms + 11
idling-need old none = (scans-idling old none).needs

-- what a search for a mark has told
pub last-some : (o : Option ℕ) (P : Type 0) (Q : ℕ → Type 0) → is_some o ≡ true → MatchOption o P Q → (place : ℕ) × Q place
last-some None P Q e h = absurd cc
last-some (Some place) P Q e h = (place, h)

pub last-none : (o : Option ℕ) (P : Type 0) (Q : ℕ → Type 0) → is_some o ≡ false → MatchOption o P Q → P
last-none None P Q e h = h
last-none (Some place) P Q e h = absurd cc

-- the text of the cells after the first, that were read
pub text-after : (active part : List Cell) (n : ℕ) → map seen part ≡ slice_range active 1 n → n ≡ length active → text_of_cells part ≡ drop 1 (text_of_cells active)
text-after active part n e n_is =
    let long : n - 1 ≡ length (drop 1 active) = ap (λ k. k - 1) n_is ∙ sym (length-drop 1 active) in
    sym (text_of_cells-seen part) ∙ ap text_of_cells (e ∙ ap (λ k. take k (drop 1 active)) long ∙ take-length (drop 1 active)) ∙ drop-text 1 active
