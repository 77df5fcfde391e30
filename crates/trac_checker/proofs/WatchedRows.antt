-- Rows of steps that a machine makes at once, each of which is a watched step.
use Rattle.std.proofs.Common.{◌≡◌, ◌∙◌, ◌-◌, ◌^◌, ◌<◌, ◌≤◌, ◌==◌, ℕ, zero, suc, Bool, true, false, List, [], ◌∷◌, ◌++◌, None, ap, arith, if◌then◌else◌, length, map, refl, reverse, subst, sym}
use Rattle.std.proofs.lemmas.List.{length-append, length-reverse, reverse-reverse}
use Rattle.std.specs.Prelude.{◌&&◌, ◌||◌, nat_lt}
use Rattle.std.specs.declared.vec.Vec.{Vec}
use Rattle.trac_language.specs.declared.mode.Mode.TheVariants.{Active, Neutral}
use Rattle.trac_language.specs.Text.{Text}
use Rattle.trac_language.specs.State.{size}
use Rattle.trac_language.specs.Rule.{Rule, LoadIdling, DeleteLayout, AddProtected, ClearActive, BeginArgument, BeginCall, EndCall, AddCharacter, rule}
use Rattle.trac_devices.specs.Devices.{Stream}
use Rattle.trac_core.specs.Advancing.{GoesAlone, StepsAlone}
use Rattle.trac_core.specs.Machine.{KeepsLimits, MachineState, moment}
use Rattle.trac_core.specs.Session.{awaited, next_function}
use Rattle.trac_core.specs.View.{dropped, row_of, taken as taken_by}
use Rattle.trac_core.specs.declared.machine.session.Awaits.TheVariants.{Nothing}
use Rattle.trac_core.specs.declared.rules.ScanningRule.{ScanningRule}
use Rattle.trac_core.specs.declared.rules.ScanningRule.TheVariants as row
use Rattle.trac_events.specs.Calls.{ends_call, reads, seen_call}
use Rattle.trac_events.specs.declared.before.Before.{Before}
use Rattle.trac_events.proofs.Seen.{nothing_awaited}
use Rattle.trac_warnings.specs.Counted.{counts_behind, counts_of}
use Rattle.trac_warnings.specs.Looked.{LooksBy, open_string, place_of}
use Rattle.trac_warnings.specs.Origins.{first_origin, in_input, moved, origin_at, shortened, taken}
use Rattle.trac_warnings.specs.Rows.{IsQuietRow, Trail, argument_origin, begun, is_quiet, none_ends, opened, text_after, text_left, trail_after, trail_behind, trail_of}
use Rattle.trac_warnings.specs.StepWarnings.{calls_behind, ended, not_ended, rest_of, rule_warnings, strings_behind}
use Rattle.trac_warnings.specs.Watched.{Said, said}
use Rattle.trac_warnings.specs.declared.origin.Origin.{Origin}
use Rattle.trac_warnings.specs.declared.trail.Run.{Run}
use Rattle.trac_warnings.specs.declared.warning.Suspicion.TheVariants.{Dropped}
use Rattle.trac_warnings.specs.declared.warning.Warning.{Warning}
use Rattle.trac_warnings.specs.declared.watch.OpenString.{OpenString}
use Rattle.trac_warnings.specs.declared.watch.Watch.{Watch}
use Rattle.trac_warnings.proofs.Keeping.{kept_same}
use Rattle.trac_checker.specs.FoundSoFar.{FoundSoFar, with_all}
use Rattle.trac_checker.specs.Rows.{PassesRow}
use Rattle.trac_checker.specs.WatchedRuns.{Watches}
use Rattle.trac_checker.proofs.Rows.{Along, Held, along, along-none, quiet-taken}
use Rattle.trac_checker.proofs.Watching.{IsWatched, watched-more}

-- ---- a quiet step, as a watch sees it

none-ended : (r : ScanningRule) (n : ℕ) (here : Origin) (calls : List Origin) (reported : List Said) (strings : List OpenString) → none_ends strings n ≡ true → ended r n here calls reported strings ≡ reported
none-ended r n here calls reported [] e = refl
none-ended r n here calls reported (string ∷ strings) e = rw e refl

none-gone : (n : ℕ) (strings : List OpenString) → none_ends strings n ≡ true → not_ended n strings ≡ strings
none-gone n [] e = refl
none-gone n (string ∷ strings) e = rw e refl

-- whether a quiet step may follow a rule of a row
abbrev may_be_quiet : ScanningRule → Bool
may_be_quiet row.Idling = false
may_be_quiet row.EndOfCall = false
may_be_quiet _ = true

sign-goes : (b : Bool) → may_be_quiet (if b then row.NumberSign else row.Character) ≡ true
sign-goes true = refl
sign-goes false = refl

quiet-goes : (r : Rule) (n : ℕ) → is_quiet r ≡ true → (may_be_quiet (row_of r) ≡ true) × (0 ≡ dropped r n)
quiet-goes LoadIdling n e = absurd cc
quiet-goes (DeleteLayout rest) n e = (refl, refl)
quiet-goes (AddProtected inside rest) n e = (refl, refl)
quiet-goes ClearActive n e = absurd cc
quiet-goes (BeginArgument rest) n e = (refl, refl)
quiet-goes (BeginCall Active rest) n e = (refl, refl)
quiet-goes (BeginCall Neutral rest) n e = (refl, refl)
quiet-goes (EndCall rest) n e = absurd cc
quiet-goes (AddCharacter c rest) n e = (sign-goes (c == 35), refl)

-- what a watch makes of a step by such a rule
record GoesQuietly {A : Type 0} (watch : Watch A) (r : ScanningRule) : Type 0 where
  pub ends : ends_call r ≡ false
  pub looks : (m : MachineState) (input : Text) (new : List (Warning A)) → new ≡ [] → LooksBy r watch m input new
  pub moved : (before active : ℕ) (value : Origin) (runs : List Run) → moved r before active value runs ≡ taken (before - active) runs
  pub warns : (before : Before) (active neutral : ℕ) → before.drops ≡ 0 → rule_warnings r watch before active neutral ≡ []
  pub calls : calls_behind r watch ≡ opened r (place_of watch) watch.calls.items
  pub strings : strings_behind r watch ≡ reverse watch.strings.items
  pub counts : counts_behind r watch ≡ counts_of watch.written.entries

goes-quietly : {A : Type 0} (watch : Watch A) (r : ScanningRule) → may_be_quiet r ≡ true → GoesQuietly watch r
goes-quietly watch row.Idling e = absurd cc
goes-quietly watch row.Protection e =
    let warned = λ (drops : ℕ) (before : Before). if drops == 0 then [] else record { origin = place_of watch; suspicion = Dropped; count = before.active - rest_of (open_string watch); text = [] } ∷ [] in
    record { ends = refl; looks = λ m input new is. is; moved = λ b a v r. refl; warns = λ b a n none. ap (λ k. warned k b) none; calls = refl; strings = refl; counts = refl }
goes-quietly watch row.EndOfCall e = absurd cc
goes-quietly watch row.Layout e = record { ends = refl; looks = λ m input new is. is; moved = λ b a v r. refl; warns = λ b a n none. refl; calls = refl; strings = refl; counts = refl }
goes-quietly watch row.Argument e = record { ends = refl; looks = λ m input new is. is; moved = λ b a v r. refl; warns = λ b a n none. refl; calls = refl; strings = refl; counts = refl }
goes-quietly watch row.ActiveCall e = record { ends = refl; looks = λ m input new is. is; moved = λ b a v r. refl; warns = λ b a n none. refl; calls = refl; strings = refl; counts = refl }
goes-quietly watch row.NeutralCall e = record { ends = refl; looks = λ m input new is. is; moved = λ b a v r. refl; warns = λ b a n none. refl; calls = refl; strings = refl; counts = refl }
goes-quietly watch row.NumberSign e = record { ends = refl; looks = λ m input new is. is; moved = λ b a v r. refl; warns = λ b a n none. refl; calls = refl; strings = refl; counts = refl }
goes-quietly watch row.Character e = record { ends = refl; looks = λ m input new is. is; moved = λ b a v r. refl; warns = λ b a n none. refl; calls = refl; strings = refl; counts = refl }

module _ {A : Type 0} (input : Text) (m next : MachineState) (watch after : Watch A) (step : StepsAlone m next) (quiet : is_quiet (rule m.memory.active) ≡ true) (held : Held next.memory) (active_is : next.memory.active ≡ text_left m.memory.active) (empty : watch.warnings.items ≡ []) (open_still : none_ends (reverse watch.strings.items) (length next.memory.active) ≡ true) (trail : trail_of after ≡ trail_behind m.memory.active watch.read (trail_of watch)) (stays : after ≡ record watch { runs = after.runs; calls = after.calls; commas = after.commas }) where
  r : ScanningRule
  r = row_of (rule m.memory.active)

  facts : GoesQuietly watch (row_of (rule m.memory.active))
  facts = goes-quietly watch (row_of (rule m.memory.active)) (quiet-goes (rule m.memory.active) (length m.memory.active) quiet).0

  abbrev before_of : Before
  before_of =
      record {
        done = m.steps;
        rule = row_of (rule m.memory.active);
        size = size m.memory;
        awaits = Nothing;
        active = length m.memory.active;
        meta = m.memory.meta;
        drops = 0;
        call = None;
      }

  -- a quiet step is a watched one
  pub watches-quiet : (source : Stream) → Watches input m next watch after
  watches-quiet source =
      let f = facts in
      let rule_is = row_of (rule m.memory.active) in
      let n = length next.memory.active in
      let steps = (step.goes source []).counts.steps in
      let took = quiet-taken m.memory.active quiet in
      let gone : taken_by (rule m.memory.active) (length m.memory.active) ≡ length m.memory.active - n = omega (arith, ap (λ t. length t) active_is, took.1.0, took.1.1) in
      let runs = ap (λ (t : Trail). t.runs) trail ∙ ap (λ k. taken k (reverse watch.runs.items)) gone ∙ sym (f.moved (length m.memory.active) n (in_input watch.read) (reverse watch.runs.items)) in
      let warnings = ap (λ (w : Watch A). w.warnings.items) stays in
      let none = ap (map said) empty in
      let reported = λ (said_before warned : List Said) (strings : List OpenString). ended rule_is n (place_of watch) (calls_behind rule_is watch) (said_before ++ warned ++ []) strings in
      let said_is : map said after.warnings.items ≡ reported (map said watch.warnings.items) (rule_warnings rule_is watch before_of n (length held.cells)) (strings_behind rule_is watch) =
      ap (map said) (warnings ∙ empty)
      ∙ sym (none-ended rule_is n (place_of watch) (calls_behind rule_is watch) [] (reverse watch.strings.items) open_still)
      ∙ ap (λ t. reported t [] (reverse watch.strings.items)) (sym none)
      ∙ ap (λ t. reported (map said watch.warnings.items) t (reverse watch.strings.items)) (sym (f.warns before_of n (length held.cells) refl))
      ∙ ap (reported (map said watch.warnings.items) (rule_warnings rule_is watch before_of n (length held.cells))) (sym f.strings) in
      record {
        before = before_of;
        looked = watch;
        seen = (
          refl,
          refl,
          refl,
          nothing_awaited m rule_is refl f.ends,
          refl,
          refl,
          (quiet-goes (rule m.memory.active) (length m.memory.active) quiet).1,
          ap (λ b. seen_call (b && (false || reads (awaited (next_function m)))) m) (sym f.ends),
        );
        looks = f.looks m input watch.warnings.items empty;
        places = refl;
        undone = λ e. absurd (omega (arith, e, steps));
        kept = λ e. kept_same watch.warnings.items after.warnings.items warnings;
        moves = λ e. (in_input watch.read, (λ reading. refl, runs));
        reads = λ e. ([], (refl, ap (λ (w : Watch A). w.read) stays));
        tells = λ e. (
          [],
          (
            held.cells,
            (
              refl,
              (
                held.neutral,
                (
                  said_is,
                  (
                    ap (λ (t : Trail). t.calls) trail ∙ sym f.calls,
                    ap (λ (w : Watch A). reverse w.strings.items) stays ∙ sym (none-gone n (reverse watch.strings.items) open_still) ∙ ap (not_ended n) (sym f.strings),
                  ),
                ),
              ),
            ),
          ),
        );
        counted = λ e. ap (λ (w : Watch A). counts_of w.written.entries) stays ∙ sym f.counts;
      }

-- ---- the watch between two steps

taken-shrinks : (count : ℕ) (runs : List Run) → length (taken count runs) ≤ length runs
taken-shrinks count [] = omega arith
taken-shrinks count (run ∷ runs) = go (nat_lt count run.len) (taken-shrinks (count - run.len) runs)
  where
    go : (b : Bool) → length (taken (count - run.len) runs) ≤ length runs → length (if b then shortened count run ∷ runs else taken (count - run.len) runs) ≤ length (run ∷ runs)
    go true fewer = omega arith
    go false fewer = omega (arith, fewer)

opened-grows : (r : ScanningRule) (here : Origin) (calls : List Origin) → length calls ≤ length (opened r here calls)
opened-grows row.ActiveCall here calls = omega (arith, length-append calls (here ∷ []))
opened-grows row.NeutralCall here calls = omega (arith, length-append calls (here ∷ []))
opened-grows row.Idling here calls = omega arith
opened-grows row.Layout here calls = omega arith
opened-grows row.Protection here calls = omega arith
opened-grows row.Argument here calls = omega arith
opened-grows row.NumberSign here calls = omega arith
opened-grows row.EndOfCall here calls = omega arith
opened-grows row.Character here calls = omega arith

begun-grows : (r : ScanningRule) (here : Origin) (left : Text) (commas : List Origin) → length commas ≤ length (begun r here left commas)
begun-grows row.Argument here left commas = omega (arith, length-append commas (argument_origin here left ∷ []))
begun-grows row.ActiveCall here left commas = omega arith
begun-grows row.NeutralCall here left commas = omega arith
begun-grows row.Idling here left commas = omega arith
begun-grows row.Layout here left commas = omega arith
begun-grows row.Protection here left commas = omega arith
begun-grows row.NumberSign here left commas = omega arith
begun-grows row.EndOfCall here left commas = omega arith
begun-grows row.Character here left commas = omega arith

runs-shrink : (n : ℕ) (text : Text) (read : ℕ) (trail : Trail) → length (trail_after n text read trail).runs ≤ length trail.runs
runs-shrink zero text read trail = omega arith
runs-shrink (suc n) text read trail =
    let before = trail_after n text read trail in
    let t = text_after n text in
    omega (arith, taken-shrinks (taken_by (rule t) (length t)) before.runs, runs-shrink n text read trail)

-- a list of so many items in a vector
abbrev vec_with : {T A : Type 0} → Vec T A → (items : List T) → length items < 2 ^ 63 → Vec T A
vec_with v items few = record v { len = length items; cap = length items; items = items; ok = (refl, omega arith); small = few }

vec-small : {T A : Type 0} (v : Vec T A) → length v.items < 2 ^ 63
vec-small v = omega (arith, v.ok.0, v.ok.1, v.small)

-- a watch after n quiet steps: `watch` before the first of them
record Between {A : Type 0} (watch : Watch A) (n : ℕ) (text : Text) : Type 0 where
  pub middle : Watch A
  pub trail : trail_of middle ≡ trail_after n text watch.read (trail_of watch)
  pub stays : middle ≡ record watch { runs = middle.runs; calls = middle.calls; commas = middle.commas }
  pub none : n ≡ 0 → middle ≡ watch

between : {A : Type 0} (watch : Watch A) (n : ℕ) (text : Text) → length (trail_after n text watch.read (trail_of watch)).calls < 2 ^ 63 → length (trail_after n text watch.read (trail_of watch)).commas < 2 ^ 63 → Between watch n text
between watch zero text calls commas = record { middle = watch; trail = refl; stays = refl; none = λ e. refl }
between {A} watch (suc n) text calls commas =
    let t = trail_after (suc n) text watch.read (trail_of watch) in
    let runs : length (reverse t.runs) < 2 ^ 63 = omega (arith, length-reverse t.runs, runs-shrink (suc n) text watch.read (trail_of watch), length-reverse watch.runs.items, vec-small watch.runs) in
    let middle : Watch A = record watch { runs = vec_with watch.runs (reverse t.runs) runs; calls = vec_with watch.calls t.calls calls; commas = vec_with watch.commas t.commas commas } in
    record {
      middle = middle;
      trail = ap (λ r. record { runs = r; calls = t.calls; commas = t.commas }) (reverse-reverse t.runs);
      stays = refl;
      none = λ e. absurd (omega (arith, e));
    }

-- ---- a row of steps

-- each step of a row was watched
module _ {A : Type 0} (input : Text) (start : MachineState) (bytes source : Stream) (written : Text) (old : MachineState) (watch : Watch A) (found : FoundSoFar) (first : Along old 0 old) (room_is : old.room ≡ start.room) (empty : watch.warnings.items ≡ []) (so : IsWatched input start bytes (moment old source written) watch found) where
  steps-watched : (n : ℕ) (m : MachineState) (after : Watch A) → GoesAlone n old m → IsQuietRow n old.memory.active (reverse watch.strings.items)
      → trail_of after ≡ trail_after n old.memory.active watch.read (trail_of watch) → after ≡ record watch { runs = after.runs; calls = after.calls; commas = after.commas } → (n ≡ 0 → after ≡ watch)
      → IsWatched input start bytes (moment m source written) after found
  steps-watched zero m after goes quiet trail stays none =
      subst (λ (w : Watch A). IsWatched input start bytes (moment m source written) w found) (sym (none refl))
      (subst (λ m. IsWatched input start bytes (moment m source written) watch found) (sym goes) so)
  steps-watched (suc n) m after goes quiet trail stays none =
      let text = old.memory.active in
      let strings = reverse watch.strings.items in
      let before = goes.0 in
      let step = goes.1.1 in
      let fewer : IsQuietRow n text strings = λ k less. quiet k (omega arith) in
      let here = quiet n (omega arith) in
      let earlier = along old strings n before goes.1.0 fewer first in
      let later = along old strings (suc n) m goes quiet first in
      let t = trail_after n text watch.read (trail_of watch) in
      let at = origin_at watch.read (first_origin t.runs) in
      let now = text_after n text in
      let calls : length t.calls < 2 ^ 63 = omega (arith, opened-grows (row_of (rule now)) at t.calls, ap (λ (t : Trail). length t.calls) trail, vec-small after.calls) in
      let commas : length t.commas < 2 ^ 63 = omega (arith, begun-grows (row_of (rule now)) at (text_left now) t.commas, ap (λ (t : Trail). length t.commas) trail, vec-small after.commas) in
      let b = between watch n text calls commas in
      let w = b.middle in
      let read = ap (λ (w : Watch A). w.read) b.stays in
      let is_quiet_here : is_quiet (rule before.memory.active) ≡ true = ap (λ t. is_quiet (rule t)) earlier.active ∙ here.quiet in
      let active : m.memory.active ≡ text_left before.memory.active = later.active ∙ ap text_left (sym earlier.active) in
      let none_w : w.warnings.items ≡ [] = ap (λ (w : Watch A). w.warnings.items) b.stays ∙ empty in
      let open_still : none_ends (reverse w.strings.items) (length m.memory.active) ≡ true =
      ap (λ (w : Watch A). none_ends (reverse w.strings.items) (length m.memory.active)) b.stays ∙ ap (λ t. none_ends strings (length t)) later.active ∙ here.open_still in
      let trail_here : trail_of after ≡ trail_behind before.memory.active w.read (trail_of w) =
      trail ∙ ap (λ x. trail_behind x watch.read t) (sym earlier.active) ∙ ap (λ k. trail_behind before.memory.active k t) (sym read) ∙ ap (trail_behind before.memory.active w.read) (sym b.trail) in
      let stays_here : after ≡ record w { runs = after.runs; calls = after.calls; commas = after.commas } =
      stays ∙ sym (ap (λ (w : Watch A). record w { runs = after.runs; calls = after.calls; commas = after.commas }) b.stays) in
      let watches = watches-quiet input before m w after step is_quiet_here later.held active none_w open_still trail_here stays_here source in
      let kept : after.warnings.items ≡ [] = ap (λ (w : Watch A). w.warnings.items) stays ∙ empty in
      watched-more input start bytes (moment before source written) (moment m source written) w after after found found (earlier.room ∙ room_is)
      (steps-watched n before w goes.1.0 fewer b.trail b.stays b.none) watches refl (ap (λ ws. with_all (reverse (map said ws)) found) (sym kept)) [] refl (step.goes source written)

-- a row that a machine makes at once is watched steps
pub row-watched : {A : Type 0} (input : Text) (start : MachineState) (bytes source : Stream) (written : Text) (old new : MachineState) (watch after : Watch A) (found : FoundSoFar)
    → PassesRow old new watch after → old.fate ≡ None → KeepsLimits old → old.room ≡ start.room → watch.warnings.items ≡ []
    → IsWatched input start bytes (moment old source written) watch found → IsWatched input start bytes (moment new source written) after found
row-watched input start bytes source written old new watch after found passes going limits room_is empty so =
    let held : Held old.memory = record { cells = passes.cells; neutral = passes.neutral } in
    let f = passes.follows in
    steps-watched input start bytes source written old watch found (along-none old held going limits) room_is empty so passes.count new after passes.goes f.quiet f.trail f.stays f.none

-- nor is a warning left after it
pub row-empty : {A : Type 0} (old new : MachineState) (watch after : Watch A) → PassesRow old new watch after → watch.warnings.items ≡ [] → after.warnings.items ≡ []
row-empty {A} old new watch after passes empty = ap (λ (w : Watch A). w.warnings.items) passes.follows.stays ∙ empty
