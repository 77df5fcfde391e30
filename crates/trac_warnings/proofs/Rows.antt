-- Rows of steps at which nothing is suspicious.
use Rattle.std.proofs.Common.{◌≡◌, ◌∙◌, ◌+◌, ◌-◌, ◌<◌, ◌≤◌, ◌==◌, ◌⊎◌, ⊎_elim, ℕ, zero, suc, Bool, true, false, List, [], ◌∷◌, ◌++◌, Option, None, Some, add-one, ap, arith, eqb-true, drop, get_or, if◌then◌else◌, length, min, refl, subst, sym, take}
use Rattle.std.proofs.lemmas.Bool.{cases_lt, lt-ltb, le-ltb, ltb-true, ltb-false}
use Rattle.std.proofs.lemmas.List.{drop-drop, length-drop, length-map, length-take}
use Rattle.std.proofs.lemmas.List.Sums.{prefix_len-le-length, prefix_len_passes}
use Rattle.std.specs.List.{prefix_len}
use Rattle.std.specs.Prelude.{◌&&◌, cond, nat_lt, not, reverse, slice_get}
use Rattle.std.specs.Bool.{nat_eq}
use Rattle.std.specs.Option.{option_eq}
use Rattle.trac_language.specs.Protected.{protected}
use Rattle.trac_language.specs.Text.{Text}
use Rattle.trac_language.specs.declared.mode.Mode.{Mode}
use Rattle.trac_language.specs.declared.mode.Mode.TheVariants.{Active, Neutral}
use Rattle.trac_language.specs.Rule.{Rule, LoadIdling, DeleteLayout, AddProtected, ClearActive, BeginArgument, BeginCall, EndCall, AddCharacter, is_layout, rule}
use Rattle.trac_core.specs.View.{row_of, taken as taken_by, taken_in_row}
use Rattle.trac_core.specs.declared.rules.ScanningRule.{ScanningRule}
use Rattle.trac_core.specs.declared.rules.ScanningRule.TheVariants as row
use Rattle.trac_core.proofs.RuleRows.{opens-active, opens-neutral, row-begins}
use Rattle.trac_warnings.specs.Origins.{behind, behind_in, first_origin, more, origin_at, shortened, taken}
use Rattle.trac_space.specs.Texts.{character_of, text_of_cells}
use Rattle.trac_space.specs.declared.cell.Cell.{Cell}
use Rattle.trac_core.proofs.Scanning.{drop-text, rule-parenthesis, take-text}
use Rattle.trac_warnings.specs.Rows.{FollowsRow, FollowsSoFar, IsQuietBehind, IsQuietRow, OpenBefore, Trail, argument_origin, begins_argument, begins_call, begun, is_at, is_plain, is_quiet, none_ends, opened, text_after, text_left, trail_after, trail_behind, trail_of, without}
use Rattle.trac_warnings.specs.StepWarnings.{takes_only}
use Rattle.trac_warnings.specs.declared.origin.Origin.{Origin}
use Rattle.trac_warnings.specs.declared.trail.Run.{Run}
use Rattle.trac_warnings.specs.declared.watch.OpenString.{OpenString}
use Rattle.trac_warnings.specs.declared.watch.Watch.{Watch}
use Rattle.trac_warnings.specs.declared.watch.rows.Row.{Row}
use Rattle.trac_warnings.proofs.Said.{head_of}

-- ---- origins

more-again : (n b a : ℕ) → more (more n b) a ≡ more n (b + a)
more-again n b a = omega arith

behind-again : (b a offset column : ℕ) (form : Option ℕ) → behind a (behind b (record { offset = offset; form = form; column = column })) ≡ behind (b + a) (record { offset = offset; form = form; column = column })
behind-again b a offset column None = ap (λ n. record { offset = n; form = None; column = column }) (more-again offset b a)
behind-again b a offset column (Some form) = ap (λ n. record { offset = offset; form = Some form; column = n }) (more-again column b a)

shortened-again : (b a : ℕ) (run : Run) → shortened a (shortened b run) ≡ shortened (b + a) run
shortened-again b a run =
    let origin = behind-again b a run.origin.offset run.origin.column run.origin.form in
    let len : run.len - b - a ≡ run.len - (b + a) = omega arith in
    λ i. record { origin = origin i; len = len i }

-- characters that are taken one part after the other
pub taken-again : (b a : ℕ) (runs : List Run) → taken a (taken b runs) ≡ taken (b + a) runs
taken-again b a [] = refl
taken-again b a (run ∷ runs) = go (taken-again (b - run.len) a runs) (nat_lt b run.len) refl
  where
    go : taken a (taken (b - run.len) runs) ≡ taken (b - run.len + a) runs → (t : Bool) → nat_lt b run.len ≡ t → taken a (if t then shortened b run ∷ runs else taken (b - run.len) runs) ≡ taken (b + a) (run ∷ runs)
    go later true less =
        let before : b < run.len = ltb-true b run.len less in
        inner (nat_lt a (run.len - b)) refl before
      where
        inner : (t : Bool) → nat_lt a (run.len - b) ≡ t → b < run.len → (if t then shortened a (shortened b run) ∷ runs else taken (a - (run.len - b)) runs) ≡ taken (b + a) (run ∷ runs)
        inner true fewer before =
            let both : nat_lt (b + a) run.len ≡ true = lt-ltb (b + a) run.len (omega (arith, ltb-true a (run.len - b) fewer)) in
            ap (λ r. r ∷ runs) (shortened-again b a run) ∙ sym (ap (λ t. if t then shortened (b + a) run ∷ runs else taken (b + a - run.len) runs) both)
        inner false fewer before =
            let both : nat_lt (b + a) run.len ≡ false = le-ltb (b + a) run.len (omega (arith, ltb-false a (run.len - b) fewer)) in
            let left : a - (run.len - b) ≡ b + a - run.len = omega arith in
            ap (λ n. taken n runs) left ∙ sym (ap (λ t. if t then shortened (b + a) run ∷ runs else taken (b + a - run.len) runs) both)
    go later false less =
        let past : run.len ≤ b = ltb-false b run.len less in
        let both : nat_lt (b + a) run.len ≡ false = le-ltb (b + a) run.len (omega arith) in
        let left : b - run.len + a ≡ b + a - run.len = omega arith in
        later ∙ ap (λ n. taken n runs) left
        ∙ sym (ap (λ t. if t then shortened (b + a) run ∷ runs else taken (b + a - run.len) runs) both)

pub without-some : (n : ℕ) (runs : List Run) → 0 < n → taken n runs ≡ without n runs
without-some zero runs some = absurd (omega (arith, some))
without-some (suc n) runs some = refl

without-more : (n count : ℕ) (runs : List Run) → 0 < count → taken count (without n runs) ≡ without (n + count) runs
without-more zero count runs some = without-some count runs some ∙ ap (λ n. without n runs) (omega arith)
without-more (suc n) count runs some = taken-again (suc n) count runs ∙ without-some (suc n + count) runs (omega (arith, some))

-- the first character behind the first `n` of a run that has more
pub first-behind : (n : ℕ) (run : Run) (runs : List Run) → 0 < n → n < run.len → first_origin (without n (run ∷ runs)) ≡ Some (behind n run.origin)
first-behind zero run runs some less = absurd (omega (arith, some))
first-behind (suc n) run runs some less = ap (λ t. first_origin (if t then shortened (suc n) run ∷ runs else taken (suc n - run.len) runs)) (lt-ltb (suc n) run.len less)

-- ---- rules

-- whether a step by a rule of a row goes on with the row
abbrev pub goes_on : ScanningRule → Bool
goes_on row.Idling = false
goes_on row.Protection = false
goes_on row.EndOfCall = false
goes_on _ = true

sign-rule : (b : Bool) (P : ScanningRule → Type 0) → P row.NumberSign → P row.Character → P (if b then row.NumberSign else row.Character)
sign-rule true P sign character = sign
sign-rule false P sign character = character

-- a step by such a rule is quiet, and takes as many characters as its row says
quiet-row : (r : Rule) → goes_on (row_of r) ≡ true → (is_quiet r ≡ true) × ((n : ℕ) → taken_by r n ≡ taken_in_row (row_of r))
quiet-row LoadIdling e = absurd cc
quiet-row (DeleteLayout rest) e = (refl, λ n. refl)
quiet-row (AddProtected inside rest) e = absurd cc
quiet-row ClearActive e = absurd cc
quiet-row (BeginArgument rest) e = (refl, λ n. refl)
quiet-row (BeginCall Active rest) e = (refl, λ n. refl)
quiet-row (BeginCall Neutral rest) e = (refl, λ n. refl)
quiet-row (EndCall rest) e = absurd cc
quiet-row (AddCharacter c rest) e = (refl, λ n. refl)

-- a rule that only takes a character opens no call and begins no argument
plain-row : (r : ScanningRule) (here : Origin) (left : Text) (calls commas : List Origin) → takes_only r ≡ true → (goes_on r ≡ true) × ((taken_in_row r ≡ 1) × ((opened r here calls ≡ calls) × (begun r here left commas ≡ commas)))
plain-row row.Layout here left calls commas e = (refl, (refl, (refl, refl)))
plain-row row.NumberSign here left calls commas e = (refl, (refl, (refl, refl)))
plain-row row.Character here left calls commas e = (refl, (refl, (refl, refl)))
plain-row row.Idling here left calls commas e = absurd cc
plain-row row.Protection here left calls commas e = absurd cc
plain-row row.Argument here left calls commas e = absurd cc
plain-row row.ActiveCall here left calls commas e = absurd cc
plain-row row.NeutralCall here left calls commas e = absurd cc
plain-row row.EndOfCall here left calls commas e = absurd cc

plain-not : (a b c d : Bool) → not a && (not b && (not c && not d)) ≡ true → (a ≡ false) × ((b ≡ false) × ((c ≡ false) × (d ≡ false)))
plain-not true b c d e = absurd cc
plain-not false true c d e = absurd cc
plain-not false false true d e = absurd cc
plain-not false false false true e = absurd cc
plain-not false false false false e = (refl, (refl, (refl, refl)))

layout-or : (layout sign : Bool) (c : ℕ) (rest : Text) → takes_only (row_of (if layout then DeleteLayout rest else AddCharacter c rest)) ≡ true
layout-or true sign c rest = refl
layout-or false sign c rest = sign-rule (c == 35) (λ r. takes_only r ≡ true) refl refl

-- a plain character only leaves
plain-first : (c : ℕ) (rest : Text) → is_plain c ≡ true → takes_only (row_of (rule (c ∷ rest))) ≡ true
unfolding rule
plain-first c rest plain =
    let not = plain-not (c == 35) (c == 40) (c == 41) (c == 44) plain in
    rw (not.1.0, not.1.1.1, not.0, not.1.1.0) (layout-or (is_layout c) false c rest)

-- each of the plain characters that begin a text only leaves
pub plain-rule : (text : Text) (k : ℕ) → k < prefix_len is_plain text → takes_only (row_of (rule (drop k text))) ≡ true
plain-rule text k less =
    let within : k < length text = omega (arith, less, prefix_len-le-length is_plain text) in
    let c = get_or text k 0 in
    ap (λ t. takes_only (row_of (rule t))) (head_of text k 0 within) ∙ plain-first c (drop (k + 1) text) (prefix_len_passes is_plain text k 0 less)

-- ---- one step more

same-row : (a b : Row) → a.steps ≡ b.steps → a.place ≡ b.place → a.pending ≡ b.pending → a ≡ b
same-row a b steps place pending = λ i. record { steps = steps i; place = place i; pending = pending i }

quiet-more : (text : Text) (strings : List OpenString) (n : ℕ) → IsQuietRow n text strings → IsQuietBehind text strings n → IsQuietRow (n + 1) text strings
quiet-more text strings n before here k less =
    ⊎_elim (λ earlier. before k earlier) (λ later. (let same : n ≡ k = omega arith in subst (IsQuietBehind text strings) same here)) (cases_lt k n)

module _ {A : Type 0} (text : Text) (old : Watch A) where
  -- one step more was followed, by a rule that is quiet
  pub more-followed : (r : Row) (middle new : Watch A) (count pending : ℕ) → FollowsSoFar text r old middle
      → is_quiet (rule (drop r.place text)) ≡ true → count ≡ taken_by (rule (drop r.place text)) (length (drop r.place text))
      → r.place + count ≤ length text → none_ends (reverse old.strings.items) (length text - (r.place + count)) ≡ true
      → trail_behind (drop r.place text) old.read (record (trail_of middle) { runs = without r.pending (reverse middle.runs.items) }) ≡ record (trail_of new) { runs = without pending (reverse new.runs.items) }
      → new ≡ record middle { runs = new.runs; calls = new.calls; commas = new.commas }
      → FollowsSoFar text (record { steps = r.steps + 1; place = r.place + count; pending = pending }) old new
  more-followed r middle new count pending so quiet count_is within open_still trail stays =
      let t = drop r.place text in
      let next = add-one r.steps in
      let left : text_after (suc r.steps) text ≡ drop (r.place + count) text =
      ap text_left so.left ∙ ap (λ n. drop n t) (sym count_is) ∙ drop-drop count r.place text in
      record {
        quiet =
            quiet-more text (reverse old.strings.items) r.steps so.quiet
            (record {
              quiet = ap (λ t. is_quiet (rule t)) so.left ∙ quiet;
              open_still = ap (none_ends (reverse old.strings.items)) (ap (λ t. length t) left ∙ length-drop (r.place + count) text) ∙ open_still;
            });
        left = ap (λ k. text_after k text) next ∙ left;
        within = within;
        trail = ap (λ k. trail_after k text old.read (trail_of old)) next ∙ ap (λ t. trail_behind t old.read (trail_after r.steps text old.read (trail_of old))) so.left ∙ ap (trail_behind t old.read) so.trail ∙ trail;
        stays = stays ∙ ap (λ (w : Watch A). record w { runs = new.runs; calls = new.calls; commas = new.commas }) so.stays;
        none = λ e. absurd (omega (arith, e));
      }

  -- one step more, which only takes a character
  plain-followed : (r : Row) (new : Watch A) → FollowsSoFar text r old new → takes_only (row_of (rule (drop r.place text))) ≡ true
      → r.place + 1 ≤ length text → none_ends (reverse old.strings.items) (length text - (r.place + 1)) ≡ true
      → FollowsSoFar text (record { steps = r.steps + 1; place = r.place + 1; pending = r.pending + 1 }) old new
  plain-followed r new so only within open_still =
      let t = drop r.place text in
      let runs = without r.pending (reverse new.runs.items) in
      let plain = plain-row (row_of (rule t)) (origin_at old.read (first_origin runs)) (text_left t) new.calls.items new.commas.items only in
      let says = quiet-row (rule t) plain.0 in
      let one : taken_by (rule t) (length t) ≡ 1 = says.1 (length t) ∙ plain.1.0 in
      let runs_are : taken (taken_by (rule t) (length t)) runs ≡ without (r.pending + 1) (reverse new.runs.items) = ap (λ n. taken n runs) one ∙ without-more r.pending 1 (reverse new.runs.items) (omega arith) in
      more-followed r new new 1 (r.pending + 1) so says.0 (sym one) within open_still
      (λ i. record { runs = runs_are i; calls = plain.1.1.0 i; commas = plain.1.1.1 i }) refl

  -- several steps more, which only take a character each
  pub plain-more : (r : Row) (new : Watch A) (reach count : ℕ) → FollowsSoFar text r old new → OpenBefore reach text (reverse old.strings.items) → reach ≤ length text
      → r.place + count ≤ reach → count ≤ prefix_len is_plain (drop r.place text)
      → FollowsSoFar text (record { steps = r.steps + count; place = r.place + count; pending = r.pending + count }) old new
  plain-more r new reach zero so open_before far within few =
      subst (λ r. FollowsSoFar text r old new) (same-row r (record { steps = r.steps + 0; place = r.place + 0; pending = r.pending + 0 }) (omega arith) (omega arith) (omega arith)) so
  plain-more r new reach (suc count) so open_before far within few =
      let before = plain-more r new reach count so open_before far (omega arith) (omega arith) in
      let here : drop count (drop r.place text) ≡ drop (r.place + count) text = drop-drop count r.place text in
      let only : takes_only (row_of (rule (drop (r.place + count) text))) ≡ true =
      ap (λ t. takes_only (row_of (rule t))) (sym here) ∙ plain-rule (drop r.place text) count (omega arith) in
      let more : Row = record { steps = r.steps + count + 1; place = r.place + count + 1; pending = r.pending + count + 1 } in
      subst (λ r. FollowsSoFar text r old new) (same-row more (record { steps = r.steps + suc count; place = r.place + suc count; pending = r.pending + suc count }) (omega arith) (omega arith) (omega arith))
      (plain-followed (record { steps = r.steps + count; place = r.place + count; pending = r.pending + count }) new before only (omega arith) (open_before (r.place + count + 1) (omega arith) (omega arith)))

  -- a step more, at a mark, before which the origins of `pending` characters are left
  pub mark-followed : (r : Row) (middle new : Watch A) (reach count pending : ℕ) → FollowsSoFar text r old middle → OpenBefore reach text (reverse old.strings.items) → reach ≤ length text
      → goes_on (row_of (rule (drop r.place text))) ≡ true → count ≡ taken_in_row (row_of (rule (drop r.place text))) → 0 < count → r.place + count ≤ reach
      → without pending (reverse new.runs.items) ≡ without r.pending (reverse middle.runs.items)
      → new.calls.items ≡ opened (row_of (rule (drop r.place text))) (origin_at old.read (first_origin (without r.pending (reverse middle.runs.items)))) middle.calls.items
      → new.commas.items ≡ begun (row_of (rule (drop r.place text))) (origin_at old.read (first_origin (without r.pending (reverse middle.runs.items)))) (text_left (drop r.place text)) middle.commas.items
      → new ≡ record middle { runs = new.runs; calls = new.calls; commas = new.commas }
      → FollowsSoFar text (record { steps = r.steps + 1; place = r.place + count; pending = pending + count }) old new
  mark-followed r middle new reach count pending so open_before far goes count_is some within runs calls commas stays =
      let t = drop r.place text in
      let says = quiet-row (rule t) goes in
      let taken_is : taken_by (rule t) (length t) ≡ count = says.1 (length t) ∙ sym count_is in
      let runs_are : taken (taken_by (rule t) (length t)) (without r.pending (reverse middle.runs.items)) ≡ without (pending + count) (reverse new.runs.items) =
      ap (taken (taken_by (rule t) (length t))) (sym runs) ∙ ap (λ n. taken n (without pending (reverse new.runs.items))) taken_is ∙ without-more pending count (reverse new.runs.items) some in
      more-followed r middle new count (pending + count) so says.0 (sym taken_is) (omega arith) (open_before (r.place + count) (omega arith) within)
      (λ i. record { runs = runs_are i; calls = sym calls i; commas = sym commas i }) stays

  -- a step more, which takes over a protected text
  pub text-followed : (r : Row) (new : Watch A) (reach count : ℕ) (inside rest : Text) → FollowsSoFar text r old new → OpenBefore reach text (reverse old.strings.items) → reach ≤ length text
      → rule (drop r.place text) ≡ AddProtected inside rest → count ≡ length inside + 2 → r.place + count ≤ reach
      → FollowsSoFar text (record { steps = r.steps + 1; place = r.place + count; pending = r.pending + count }) old new
  text-followed r new reach count inside rest so open_before far is count_is within =
      let t = drop r.place text in
      let runs = without r.pending (reverse new.runs.items) in
      let here = origin_at old.read (first_origin runs) in
      let taken_is : taken_by (rule t) (length t) ≡ count = ap (λ r. taken_by r (length t)) is ∙ sym count_is in
      let runs_are : taken (taken_by (rule t) (length t)) runs ≡ without (r.pending + count) (reverse new.runs.items) = ap (λ n. taken n runs) taken_is ∙ without-more r.pending count (reverse new.runs.items) (omega (arith, count_is)) in
      let calls_are = ap (λ r. opened (row_of r) here new.calls.items) is in
      let commas_are = ap (λ r. begun (row_of r) here (text_left t) new.commas.items) is in
      more-followed r new new count (r.pending + count) so (ap is_quiet is) (sym taken_is) (omega arith) (open_before (r.place + count) (omega (arith, count_is)) within)
      (λ i. record { runs = runs_are i; calls = calls_are i; commas = commas_are i }) refl

-- ---- marks

-- a character at a place of a text
at-place : (text : Text) (place c : ℕ) → is_at text place c ≡ true → slice_get text place ≡ Some c
at-place text place c is = some-same (slice_get text place) c is
  where
    some-same : (o : Option ℕ) (c : ℕ) → option_eq nat_eq o (Some c) ≡ true → o ≡ Some c
    some-same None c is = absurd cc
    some-same (Some x) c is = ap Some (eqb-true x c is)

get-dropped : (text : Text) (place k : ℕ) → slice_get (drop place text) k ≡ slice_get text (place + k)
get-dropped text zero k = ap (slice_get text) (omega arith)
get-dropped [] (suc place) k = refl
get-dropped (c ∷ text) (suc place) k = let next : suc (place + k) ≡ suc place + k = omega arith in get-dropped text place k ∙ ap (slice_get (c ∷ text)) next

pub at-dropped : (text : Text) (place c : ℕ) → is_at (drop place text) 0 c ≡ is_at text place c
at-dropped text place c =
    let same : place + 0 ≡ place = omega arith in
    ap (λ o. option_eq nat_eq o (Some c)) (get-dropped text place 0 ∙ ap (slice_get text) same)

pub first-there : (text : Text) (place c : ℕ) → place < length text → get_or text place 0 ≡ c → slice_get (drop place text) 0 ≡ Some c
first-there text place c less is = ap (λ t. slice_get t 0) (head_of text place 0 less) ∙ ap Some is

-- the rule of a left parenthesis whose match is found
pub protected-mark : (text : Text) (place len : ℕ) → place < length text → get_or text place 0 ≡ 40 → len < length (drop (place + 1) text)
    → protected (drop (place + 1) text) ≡ Some (take len (drop (place + 1) text), drop (len + 1) (drop (place + 1) text))
    → (inside : Text) × ((rest : Text) × ((rule (drop place text) ≡ AddProtected inside rest) × (len + 2 ≡ length inside + 2)))
protected-mark text place len within opens near found =
    let behind = drop (place + 1) text in
    let first : drop place text ≡ 40 ∷ behind = head_of text place 0 within ∙ ap (λ c. c ∷ behind) opens in
    let inside_len : length (take len behind) ≡ len = omega (arith, near, length-take len behind) in
    (take len behind, (drop (len + 1) behind, (ap rule first ∙ rule-parenthesis behind _ found, ap (λ n. n + 2) (sym inside_len))))

pub comma-mark : (text : Text) (place : ℕ) → place < length text → get_or text place 0 ≡ 44 → begins_argument (row_of (rule (drop place text))) ≡ true
comma-mark text place less is = ap begins_argument (sym (row-begins row.Argument (drop place text) (first-there text place 44 less is)))

pub active-mark : (text : Text) (place : ℕ) → place < length text → get_or text place 0 ≡ 35 → is_at text (place + 1) 40 ≡ true
    → (begins_call (row_of (rule (drop place text))) ≡ true) × (2 ≡ taken_in_row (row_of (rule (drop place text))))
active-mark text place less is second =
    let t = drop place text in
    let opens = row-begins row.ActiveCall t (opens-active t (first-there text place 35 less is) (get-dropped text place 1 ∙ at-place text (place + 1) 40 second)) in
    (ap begins_call (sym opens), ap taken_in_row opens)

pub neutral-mark : (text : Text) (place : ℕ) → place < length text → get_or text place 0 ≡ 35 → is_at text (place + 1) 35 ≡ true → is_at text (place + 2) 40 ≡ true
    → (begins_call (row_of (rule (drop place text))) ≡ true) × (3 ≡ taken_in_row (row_of (rule (drop place text))))
neutral-mark text place less is second third =
    let t = drop place text in
    let opens = row-begins row.NeutralCall t (opens-neutral t (first-there text place 35 less is) (get-dropped text place 1 ∙ at-place text (place + 1) 35 second) (get-dropped text place 2 ∙ at-place text (place + 2) 40 third)) in
    (ap begins_call (sym opens), ap taken_in_row opens)

-- what follows at a mark that opens a call, and at a comma
pub call-goes : (r : ScanningRule) (here : Origin) (left : Text) (calls commas : List Origin) → begins_call r ≡ true → (goes_on r ≡ true) × ((0 < taken_in_row r) × ((opened r here calls ≡ calls ++ here ∷ []) × (begun r here left commas ≡ commas)))
call-goes row.ActiveCall here left calls commas e = (refl, (omega arith, (refl, refl)))
call-goes row.NeutralCall here left calls commas e = (refl, (omega arith, (refl, refl)))
call-goes row.Idling here left calls commas e = absurd cc
call-goes row.Layout here left calls commas e = absurd cc
call-goes row.Protection here left calls commas e = absurd cc
call-goes row.Argument here left calls commas e = absurd cc
call-goes row.NumberSign here left calls commas e = absurd cc
call-goes row.EndOfCall here left calls commas e = absurd cc
call-goes row.Character here left calls commas e = absurd cc

pub comma-goes : (r : ScanningRule) (here : Origin) (left : Text) (calls commas : List Origin) → begins_argument r ≡ true → (goes_on r ≡ true) × ((1 ≡ taken_in_row r) × ((opened r here calls ≡ calls) × (begun r here left commas ≡ commas ++ argument_origin here left ∷ [])))
comma-goes row.Argument here left calls commas e = (refl, (refl, (refl, refl)))
comma-goes row.ActiveCall here left calls commas e = absurd cc
comma-goes row.NeutralCall here left calls commas e = absurd cc
comma-goes row.Idling here left calls commas e = absurd cc
comma-goes row.Layout here left calls commas e = absurd cc
comma-goes row.Protection here left calls commas e = absurd cc
comma-goes row.NumberSign here left calls commas e = absurd cc
comma-goes row.EndOfCall here left calls commas e = absurd cc
comma-goes row.Character here left calls commas e = absurd cc

-- what a comma leaves of the active string
pub comma-left : (text : Text) → begins_argument (row_of (rule text)) ≡ true → text_left text ≡ drop 1 text
comma-left text begins =
    let goes = comma-goes (row_of (rule text)) (origin_at 0 None) [] [] [] begins in
    ap (λ n. drop n text) ((quiet-row (rule text) goes.0).1 (length text) ∙ sym goes.1.0)

-- ---- plain characters

prefix-taken : (p : ℕ → Bool) (n : ℕ) (xs : List ℕ) → prefix_len p (take n xs) ≤ prefix_len p xs
prefix-taken p zero xs = omega arith
prefix-taken p (suc n) [] = omega arith
prefix-taken p (suc n) (x ∷ xs) = go (p x) (prefix-taken p n xs)
  where
    go : (b : Bool) → prefix_len p (take n xs) ≤ prefix_len p xs → cond b (1 + prefix_len p (take n xs)) 0 ≤ cond b (1 + prefix_len p xs) 0
    go true fewer = omega (arith, fewer)
    go false fewer = omega arith

-- the first of some plain characters, and those behind it
plain-head : (c : ℕ) (rest : Text) → 0 < prefix_len is_plain (c ∷ rest) → prefix_len is_plain (c ∷ rest) ≡ prefix_len is_plain rest + 1
plain-head c rest = go (is_plain c)
  where
    go : (b : Bool) → 0 < cond b (1 + prefix_len is_plain rest) 0 → cond b (1 + prefix_len is_plain rest) 0 ≡ prefix_len is_plain rest + 1
    go true some = omega arith
    go false some = absurd (omega (arith, some))

-- plain characters of a part of the cells
pub plain-part : (cells : List Cell) (place end count : ℕ) → place ≤ end → count ≡ prefix_len is_plain (text_of_cells (take (end - place) (drop place cells))) → (place + count ≤ end) × (count ≤ prefix_len is_plain (drop place (text_of_cells cells)))
plain-part cells place end count order is =
    let part = drop place (text_of_cells cells) in
    let same : count ≡ prefix_len is_plain (take (end - place) part) = is ∙ ap (prefix_len is_plain) (take-text (end - place) (drop place cells) ∙ ap (take (end - place)) (drop-text place cells)) in
    (omega (arith, same, prefix_len-le-length is_plain (take (end - place) part), length-take (end - place) part), omega (arith, same, prefix-taken is_plain (end - place) part))

-- plain characters of a part of the cells behind one that is plain
pub plain-behind : (cells : List Cell) (place end count : ℕ) → place < end → end ≤ length cells → 0 < prefix_len is_plain (drop place (text_of_cells cells))
    → count ≡ prefix_len is_plain (text_of_cells (take (end - (place + 1)) (drop (place + 1) cells)))
    → (place + (count + 1) ≤ end) × (count + 1 ≤ prefix_len is_plain (drop place (text_of_cells cells)))
plain-behind cells place end count order within first is =
    let text = text_of_cells cells in
    let part = plain-part cells (place + 1) end count (omega arith) is in
    let here = head_of text place 0 (omega (arith, length-map cells character_of)) in
    let more = ap (prefix_len is_plain) here ∙ plain-head (get_or text place 0) (drop (place + 1) text) (subst (λ t. 0 < prefix_len is_plain t) here first) in
    (omega (arith, part.0), omega (arith, part.1, more))
