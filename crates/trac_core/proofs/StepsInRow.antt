-- Steps in a row: ordinary characters are added one by one, layout characters deleted, and the steps of any rule that
-- performs no call follow one another.
use Rattle.trac_core.proofs.Imports.{◌≡◌, ◌≢◌, ℕ, zero, suc, ◌<◌, ◌≤◌, ◌+◌, ◌-◌, max, ◌⊎◌, inl, inr, Bool, true, false, ◌||◌, List, [], ◌∷◌, ◌++◌, length, take, drop, All, Option, Some, None, slice_get, refl, sym, ap, ◌∙◌, subst, arith, append_assoc, append-nil, length-append, ◌==◌, take-take, Fate, Workspace, All-head, All-tail, All-cons, Text, Memory, size, is_layout, need, Cell, Byte, text_of_cells, IsByte, Contents, used, IsSound, Stream, memory_of, moment, ending, state_of, Scans, scene, Scanned, Tried, is_special, IsOrdinary, IsLayout, Passes, PassesTimes, Advances, SomeSteps, peak_after}
use Rattle.trac_functions.proofs.FlatLemmas.{size-used}
use Rattle.trac_core.proofs.Scanning.{scans-other, scans-layout, first-rest}

-- no rule of its own
pub ordinary-layout : (c : ℕ) → IsOrdinary c → is_layout c ≡ false
ordinary-layout c h = go (is_layout c) (c == 35) (c == 40) (c == 41) (c == 44) h
  where
    go : (a b d e f : Bool) → (a || b || d || e || f) ≡ false → a ≡ false
    go false b d e f h = refl
    go true b d e f h = absurd cc

pub ordinary-not : (c b : ℕ) → IsOrdinary c → is_special b ≡ true → c ≢ b
ordinary-not c b h special e = let f : is_special b ≡ false = subst IsOrdinary e h in cc

-- an ordinary character is added
pub scans-ordinary : (old : Contents) (c : ℕ) → slice_get (text_of_cells old.active) 0 ≡ Some c → IsOrdinary c → Scans old (record old { active = drop 1 old.active; neutral = old.neutral ++ Byte c ∷ [] }) (used old)
scans-ordinary old c first h =
    scans-other old c first (ordinary-layout c h) (ordinary-not c 40 h refl) (ordinary-not c 41 h refl) (ordinary-not c 44 h refl) (ordinary-not c 35 h refl)

-- a step over the contents of a workspace, as one over the memory that they stand for
pub passes-scans : (meta : ℕ) (old new : Contents) → Scans old new (used old) → used new ≤ used old → Passes (memory_of meta old) (memory_of meta new)
passes-scans meta old new scans same =
    record {
      goes = scans.goes meta;
      needs = λ input output. scans.needs meta input output ∙ sym (size-used meta old);
      reads = scans.reads meta;
      no_larger = omega (arith, same, size-used meta new, size-used meta old);
      no_call = scans.no_call meta;
    }

-- the contents with the first n cells of active at the end of neutral
abbrev pub moved : ℕ → Contents → Contents
moved n w = record w { active = drop n w.active; neutral = w.neutral ++ take n w.active }

pub characters-pass : (meta n : ℕ) (w : Contents) → All IsByte w.active → n ≤ length w.active → All IsOrdinary (take n (text_of_cells w.active)) → PassesTimes n (memory_of meta w) (memory_of meta (moved n w))
characters-pass meta n w = go n w w.active
  where
    go : (n : ℕ) (w : Contents) (active : List Cell) → All IsByte active → n ≤ length active → All IsOrdinary (take n (text_of_cells active)) → PassesTimes n (memory_of meta (record w { active = active })) (memory_of meta (moved n (record w { active = active })))
    go zero w active bytes within ordinary = ap (λ cells. memory_of meta (record w { active = active; neutral = cells })) (sym (append-nil w.neutral))
    go (suc n) w [] bytes within ordinary = absurd (omega arith)
    go (suc n) w (Byte c ∷ rest) bytes within ordinary =
        let special = All-head IsOrdinary c (take n (text_of_cells rest)) ordinary in
        let old : Contents = record w { active = Byte c ∷ rest } in
        let next : Contents = record w { active = rest; neutral = w.neutral ++ Byte c ∷ [] } in
        let scans = scans-ordinary old c refl special in
        let pushed = length-append w.neutral (Byte c ∷ []) in
        let others = go n next rest (All-tail IsByte (Byte c) rest bytes) (omega arith) (All-tail IsOrdinary c (take n (text_of_cells rest)) ordinary) in
        let same : used next ≤ used old = omega arith in
        (memory_of meta next, (passes-scans meta old next scans same, rw (append_assoc w.neutral (Byte c ∷ []) (take n rest)) at others))
    go (suc n) w (cell ∷ rest) bytes within ordinary = absurd (All-head IsByte cell rest bytes)

-- the contents without the first n cells of active
abbrev pub dropped : ℕ → Contents → Contents
dropped n w = record w { active = drop n w.active }

pub layouts-pass : (meta n : ℕ) (w : Contents) → All IsByte w.active → n ≤ length w.active → All IsLayout (take n (text_of_cells w.active)) → PassesTimes n (memory_of meta w) (memory_of meta (dropped n w))
layouts-pass meta n w = go n w.active
  where
    go : (n : ℕ) (active : List Cell) → All IsByte active → n ≤ length active → All IsLayout (take n (text_of_cells active)) → PassesTimes n (memory_of meta (record w { active = active })) (memory_of meta (dropped n (record w { active = active })))
    go zero active bytes within layout = refl
    go (suc n) [] bytes within layout = absurd (omega arith)
    go (suc n) (Byte c ∷ rest) bytes within layout =
        let old : Contents = record w { active = Byte c ∷ rest } in
        let next : Contents = record w { active = rest } in
        let scans = scans-layout old c refl (All-head IsLayout c (take n (text_of_cells rest)) layout) in
        let fewer : used next ≤ used old = omega arith in
        (memory_of meta next, (passes-scans meta old next scans fewer, go n rest (All-tail IsByte (Byte c) rest bytes) (omega arith) (All-tail IsLayout c (take n (text_of_cells rest)) layout)))
    go (suc n) (cell ∷ rest) bytes within layout = absurd (All-head IsByte cell rest bytes)

-- one step, and some and then others
pub passes-once : (old new : Memory) → Passes old new → PassesTimes 1 old new
passes-once old new pass = (new, (pass, refl))

pub one-step : (old new : Contents) (most : ℕ) → Scans old new (used old) → used new ≤ used old → length new.active < length old.active → 0 < most → SomeSteps 1 most old new
one-step old new most scans same shorter some =
    record { passes = λ meta. passes-once _ _ (passes-scans meta old new scans same); some = omega arith; few = omega arith; shorter = shorter }

-- the first character, which the rule was found by, and those of the same kind that follow it
pub All-after : (P : ℕ → Type 0) (n : ℕ) (text : Text) (after : List Cell) → (c : ℕ) × ((slice_get text 0 ≡ Some c) × P c) → n ≤ length after → text_of_cells after ≡ take (length after) (drop 1 text) → All P (take n (text_of_cells after)) → All P (take (1 + n) text)
All-after P n text after first within part rest =
    let same : take n (text_of_cells after) ≡ take n (drop 1 text) = ap (take n) part ∙ take-take n (length after) (drop 1 text) within in
    let one : 1 + n ≡ suc n = omega arith in
    subst (λ k. All P (take k text)) (sym one)
    (subst (λ t. All P (take (suc n) t)) (sym (first-rest text first.0 first.1.0))
    (All-cons P first.0 (take n (drop 1 text)) first.1.1 (subst (All P) same rest)))

pub passes-then : (n k : ℕ) (old middle new : Memory) → PassesTimes n old middle → PassesTimes k middle new → PassesTimes (n + k) old new
passes-then zero k old middle new first second =
    let none : 0 + k ≡ k = omega arith in
    subst (λ i. PassesTimes i old new) (sym none) (subst (λ m. PassesTimes k m new) (sym first) second)
passes-then (suc n) k old middle new first second =
    let more : suc n + k ≡ suc (n + k) = omega arith in
    subst (λ i. PassesTimes i old new) (sym more) (first.0, (first.1.0, passes-then n k first.0 middle new first.1.1 second))

-- one step that performs no call, as a try of a step
pub tried-passed : (old new : Contents) (needed : ℕ) → Advances 1 old new → IsSound old → needed ≡ used old → (meta : ℕ) (source : Stream) (written : Text) → Tried (scene old meta source written) None needed (scene new meta source written)
tried-passed old new needed passes sound needs meta source written = λ m room_is memory_is allowed.
    let once = passes meta in
    let pass : Passes (memory_of meta old) (memory_of meta new) = subst (Passes (memory_of meta old)) once.1.1 once.1.0 in
    let need_is : need (state_of (moment m source written)) ≡ needed = rw memory_is (pass.needs (ending source.bytes) written ∙ size-used meta old ∙ sym needs) in
    record {
      may = record { allowed = allowed; fits = omega arith };
      goes = rw memory_is (pass.goes (ending source.bytes) written);
      counts = record { steps = refl; peak = ap (max m.peak) (sym need_is) };
      stays_ended = λ e. e;
      read_all = λ reads. absurd (let none = pass.reads (ending source.bytes) written in let some = rw memory_is at reads in cc);
    }

-- a step that performs no call was done, or needs more than the room, as a try of a step
pub tried-scanned : (fate : Option Fate) (old new : Contents) (needed : ℕ) → Scanned fate needed old new → needed ≤ old.room → (meta : ℕ) (source : Stream) (written : Text) → Tried (scene old meta source written) fate needed (scene new meta source written)
tried-scanned None old new needed scans fits meta source written = λ m room_is memory_is allowed.
    let need_is : need (state_of (moment m source written)) ≡ needed = rw memory_is (scans.needs meta (ending source.bytes) written) in
    record {
      may = record { allowed = allowed; fits = omega arith };
      goes = rw memory_is (scans.goes meta (ending source.bytes) written);
      counts = record { steps = refl; peak = ap (max m.peak) (sym need_is) };
      stays_ended = λ e. e;
      read_all = λ reads. absurd (let none = scans.reads meta (ending source.bytes) written in let some = rw memory_is at reads in cc);
    }
tried-scanned (Some Workspace) old new needed full fits meta source written = λ m room_is memory_is allowed.
    record { allowed = allowed; full = rw memory_is (let more = full meta (ending source.bytes) written in omega arith); counts = record { steps = omega arith; peak = omega arith }; written = refl }
tried-scanned (Some _) old new needed full fits meta source written = absurd full

-- some steps that take a character each
pub some-run : (old new : Contents) (n most : ℕ) → Advances n old new → n ≤ most → 0 < n → length new.active + n ≡ length old.active → SomeSteps n most old new
some-run old new n most passes few some shorter =
    record { passes = passes; some = some; few = few; shorter = omega arith }

-- a step, and then some that take a character each
pub step-run : (old middle new : Contents) (n most : ℕ) → SomeSteps 1 most old middle → Advances n middle new → n ≤ most - 1 → length new.active + n ≡ length middle.active → SomeSteps (1 + n) most old new
step-run old middle new n most step passes few less =
    record {
      passes = λ meta. passes-then 1 n (memory_of meta old) (memory_of meta middle) (memory_of meta new) (step.passes meta) (passes meta);
      some = omega arith;
      few = omega (arith, few, step.few);
      shorter = omega (arith, less, step.shorter);
    }

-- steps that perform no call leave a memory no larger
pub passes-smaller : (n : ℕ) (old new : Memory) → PassesTimes n old new → size new ≤ size old
passes-smaller zero old new passes = let same = ap size passes in omega arith
passes-smaller (suc n) old new passes =
    let later = passes-smaller n passes.0 new passes.1.1 in
    omega arith

-- after some steps the peak is what it was or the need of the first, which has not to be this one
pub peak-some : (n cells need peak : ℕ) → 0 < n → (need ≡ cells) ⊎ ((cells ≤ peak) × (need ≤ peak)) → peak_after n cells peak ≡ max peak need
peak-some zero cells need peak some known = absurd (omega arith)
peak-some (suc n) cells need peak some (inl same) = omega arith
peak-some (suc n) cells need peak some (inr known) = let a = known.0 in let b = known.1 in omega arith
