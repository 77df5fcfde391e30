-- Warnings that are added step by step.
use Rattle.std.proofs.Common.{◌≡◌, ◌∙◌, ◌<◌, ◌+◌, ◌==◌, ℕ, suc, Bool, List, [], ◌∷◌, ◌++◌, length, take, drop, ◌-◌, get_or, ap, sym, subst, append_assoc, arith}
use Rattle.std.proofs.Math.Seq.{drop-cons}
use Rattle.std.proofs.lemmas.List.{length-append, reverse-append}
use Rattle.std.specs.Prelude.{false, nat_lt, reverse, ◌&&◌, if◌then◌else◌}
use Rattle.trac_language.specs.declared.item.Item.{Item}
use Rattle.trac_space.specs.declared.cell.Cell.{Cell}
use Rattle.trac_warnings.specs.Misspelled.{misspelled_at, misspelled_from}
use Rattle.trac_warnings.specs.Performed.{gap_behind, gaps_behind, next_text, of_text}
use Rattle.trac_warnings.specs.Script.{spelled, spelled_at, reported_behind}
use Rattle.trac_warnings.specs.Spelling.{spelling_of}
use Rattle.trac_warnings.proofs.NextNames.{taken_whole}
use Rattle.trac_core.specs.declared.rules.ScanningRule.{ScanningRule}
use Rattle.trac_warnings.specs.StepWarnings.{end_warnings, ended, is_dropped_last, is_protection, not_ended, open_warnings}
use Rattle.trac_warnings.specs.declared.watch.OpenString.{OpenString}
use Rattle.trac_warnings.specs.Watched.{Said}
use Rattle.trac_warnings.specs.declared.origin.Origin.{Origin}
use Rattle.trac_warnings.specs.declared.warning.Suspicion.{Suspicion}
use Rattle.trac_warnings.specs.declared.performed.Ending.{Ending}

pub head_of : {A : Type 0} (xs : List A) (k : ℕ) (d : A) → k < length xs → drop k xs ≡ get_or xs k d ∷ drop (k + 1) xs
head_of xs k d less = let e : suc k ≡ k + 1 = omega arith in drop-cons xs k d less ∙ ap (λ n. get_or xs k d ∷ drop n xs) e

-- what was added first, and then the others
added_first : (old new first others whole : List Said) → new ≡ old ++ first → old ++ (first ++ others) ≡ whole → new ++ others ≡ whole
added_first old new first others whole added all = ap (λ t. t ++ others) added ∙ append_assoc old first others ∙ all

spelled_behind : (old new whole : List Said) (reported sign later : Bool) (place c : ℕ) (text : List ℕ)
    → new ≡ old ++ spelled_at (spelling_of (c ∷ text)) reported sign place (c ∷ text)
    → later ≡ reported_behind (spelling_of (c ∷ text)) reported c
    → old ++ spelled reported sign place (c ∷ text) ≡ whole → new ++ spelled later (c == 35) (place + 1) text ≡ whole
spelled_behind old new whole reported sign later place c text added is all =
    ap (λ t. new ++ spelled t (c == 35) (place + 1) text) is
    ∙ added_first old new (spelled_at (spelling_of (c ∷ text)) reported sign place (c ∷ text)) (spelled (reported_behind (spelling_of (c ∷ text)) reported c) (c == 35) (place + 1) text) whole added all

-- the spelling of a text at a place of the input, and of what stands behind its head
pub next_spelled : (old new whole : List Said) (reported sign later : Bool) (place : ℕ) (input : List ℕ) → place < length input
    → new ≡ old ++ spelled_at (spelling_of (take (length input - place) (drop place input))) reported sign place (take (length input - place) (drop place input))
    → later ≡ reported_behind (spelling_of (take (length input - place) (drop place input))) reported (get_or (take (length input - place) (drop place input)) 0 0)
    → old ++ spelled reported sign place (drop place input) ≡ whole
    → new ++ spelled later (get_or input place 0 == 35) (place + 1) (drop (place + 1) input) ≡ whole
next_spelled old new whole reported sign later place input less added is all =
    let head = head_of input place 0 less in
    let part = taken_whole input place ∙ head in
    spelled_behind old new whole reported sign later place (get_or input place 0) (drop (place + 1) input)
    (subst (λ t. new ≡ old ++ spelled_at (spelling_of t) reported sign place t) part added)
    (subst (λ t. later ≡ reported_behind (spelling_of t) reported (get_or t 0 0)) part is)
    (subst (λ t. old ++ spelled reported sign place t ≡ whole) head all)

-- the calls at a place of the input, and behind it, whose names are misspelled
pub next_misspelled : (old new whole : List Said) (place : ℕ) (input : List ℕ) → place < length input
    → new ≡ old ++ misspelled_at place (take (length input - place) (drop place input))
    → old ++ misspelled_from place (drop place input) ≡ whole → new ++ misspelled_from (place + 1) (drop (place + 1) input) ≡ whole
next_misspelled old new whole place input less added all =
    let head = head_of input place 0 less in
    let part = taken_whole input place ∙ head in
    added_first old new (misspelled_at place (get_or input place 0 ∷ drop (place + 1) input)) (misspelled_from (place + 1) (drop (place + 1) input)) whole
    (subst (λ t. new ≡ old ++ misspelled_at place t) part added)
    (subst (λ t. old ++ misspelled_from place t ≡ whole) head all)

-- the texts behind a cell of the arguments, and behind the next
pub next_gaps : (old new whole : List Said) (k next i : ℕ) (d : Cell) (cells : List Cell) (items : List Item) (ending : Ending) → i < length cells
    → new ≡ old ++ gap_behind (get_or cells i d) k items ending → next ≡ next_text (get_or cells i d) k
    → old ++ gaps_behind k (drop i cells) items ending ≡ whole
    → new ++ gaps_behind next (drop (i + 1) cells) items ending ≡ whole
next_gaps old new whole k next i d cells items ending less added is all =
    let cell = get_or cells i d in
    let others = gaps_behind (next_text cell k) (drop (i + 1) cells) items ending in
    let here : old ++ (gap_behind cell k items ending ++ others) ≡ whole = ap (λ t. old ++ gaps_behind k t items ending) (sym (head_of cells i d less)) ∙ all in
    ap (λ n. new ++ gaps_behind n (drop (i + 1) cells) items ending) is
    ∙ added_first old new (gap_behind cell k items ending) others whole added here

-- the warning of one more open call was added, and the warnings of the calls behind it are left
pub next_open : (suspicion : Suspicion) (old new whole : List Said) (k : ℕ) (d : Origin) (calls : List Origin) → k < length calls
    → new ≡ old ++ of_text suspicion (get_or calls k d) [] ∷ [] → old ++ open_warnings suspicion (drop k calls) ≡ whole
    → new ++ open_warnings suspicion (drop (k + 1) calls) ≡ whole
next_open suspicion old new whole k d calls less added all =
    added_first old new (of_text suspicion (get_or calls k d) [] ∷ []) (open_warnings suspicion (drop (k + 1) calls)) whole added
    (ap (λ t. old ++ open_warnings suspicion t) (sym (head_of calls k d less)) ∙ all)

last_first : {A : Type 0} (xs ys : List A) (x : A) → xs ≡ ys ++ x ∷ [] → reverse xs ≡ x ∷ reverse ys
last_first xs ys x is = ap reverse is ∙ reverse-append ys (x ∷ [])

-- what is said of the end of the last string was added, and what is said of the others' ends is left
pub next_end : (rule : ScanningRule) (active : ℕ) (here : Origin) (calls : List Origin) (reported new whole : List Said) (is_unmatched : Bool)
    (string : OpenString) (strings others : List OpenString) → nat_lt string.rest active ≡ false → strings ≡ others ++ string ∷ []
    → is_unmatched ≡ (nat_lt active string.rest && is_protection rule)
    → new ≡ reported ++ end_warnings is_unmatched (is_dropped_last reported) here calls string
    → ended rule active here calls reported (reverse strings) ≡ whole → ended rule active here calls new (reverse others) ≡ whole
next_end rule active here calls reported new whole is_unmatched string strings others less is unmatched added all =
    let e = λ (b : Bool). reported ++ end_warnings b (is_dropped_last reported) here calls string in
    let later = ended rule active here calls (e (nat_lt active string.rest && is_protection rule)) (reverse others) in
    ap (λ t. ended rule active here calls t (reverse others)) (added ∙ ap e unmatched)
    ∙ sym (ap (λ b. if b then reported else later) less)
    ∙ sym (ap (ended rule active here calls reported) (last_first strings others string is)) ∙ all

pub next_not_ended : (active : ℕ) (whole : List OpenString) (string : OpenString) (strings others : List OpenString)
    → nat_lt string.rest active ≡ false → strings ≡ others ++ string ∷ []
    → not_ended active (reverse strings) ≡ whole → not_ended active (reverse others) ≡ whole
next_not_ended active whole string strings others less is all =
    sym (ap (λ b. if b then string ∷ reverse others else not_ended active (reverse others)) less)
    ∙ sym (ap (not_ended active) (last_first strings others string is)) ∙ all

pub len_popped : {A : Type 0} (xs ys : List A) (x : A) → xs ≡ ys ++ x ∷ [] → length xs ≡ length ys + 1
len_popped xs ys x is = ap length is ∙ length-append ys (x ∷ [])
