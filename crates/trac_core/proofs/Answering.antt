-- A call of no function to which the host gives a value.
use Rattle.trac_core.proofs.Imports.{ending, ◌≡◌, ℕ, ◌+◌, ◌-◌, ◌<◌, ◌≤◌, max, Bool, true, false, List, [], ◌∷◌, length, drop, Option, Some, None, refl, sym, ap, ◌∙◌, arith, append-nil, slice_get, Text, Input, OpenCall, State, size, Rule, EndCall, rule, Next, deliver, follow, with_active, world_of, built, meaning, World, ◌++◌, reads_last, end_call, perform, function_of, need_by, end_need, need, step, world, arguments, reads_last_by, Contents, used, IsSound, IsLastCall, text_of_cells, function_at, Scene, memory_of, mode_at, state_with, state_of, delivered, ClosesCall, Fate, Workspace, Steps, Moment, moment, Answers, MachineState, Stream, counted, calls_unknown, is_unknown, call_performed_by, Function}
use Rattle.std.specs.Prelude.{is_none, is_some, MatchOption}
use Rattle.trac_laws.specs.LastRead.{end_reads_last}
use Rattle.std.proofs.lemmas.Bool.{true≢false}
use Rattle.trac_laws.proofs.Rules.{rule_end}
use Rattle.trac_functions.proofs.FlatLemmas.{arguments-call_at, neutral_of-innermost, opened, grown-mode, size-used}
use Rattle.trac_core.specs.declared.machine.answering.Delivery.{Delivery}
use Rattle.trac_core.specs.declared.machine.answering.Delivery.TheVariants.{ByMode, Scanned, Unscanned}
use Rattle.trac_core.specs.Answering.{Answered, answer_need, answer_of, answered, end_answered, follow_answered, is_forced, mode_by}
use Rattle.trac_core.proofs.Performing.{closed, memory-delivered, performs-closed}
use Rattle.trac_core.proofs.Performed.{call-innermost}

-- ---- the definition

-- with the null value, delivered as the language does, the step is the definition's own
unknown-end : (calls : List OpenCall) (rest : Text) (s : State) → is_unknown (call_performed_by (EndCall rest) calls) ≡ true → end_call calls s ≡ end_answered ByMode [] calls s
unknown-end [] rest s e = absurd (true≢false (sym e))
unknown-end (call ∷ outer) rest s e = go (function_of call) e
  where
    go : (f : Option Function) → is_none f ≡ true → perform call.mode (meaning f (arguments call) (world_of s)) (record s { memory = record s.memory { calls = outer } }) ≡ end_answered ByMode [] (call ∷ outer) s
    go None e = refl
    go (Some f) e = absurd (true≢false (sym e))

unknown-follow : (r : Rule) (s : State) → is_unknown (call_performed_by r s.memory.calls) ≡ true → follow r s ≡ follow_answered r ByMode [] s
unknown-follow (EndCall rest) s e = unknown-end s.memory.calls rest (with_active rest s) e
unknown-follow _ s e = absurd (true≢false (sym e))

pub unknown-step : (s : State) → calls_unknown s.memory ≡ true → step s ≡ answered ByMode [] s
unfolding step
unknown-step s e = unknown-follow (rule s.memory.active) s e

unknown-end_need : (calls : List OpenCall) (rest : Text) (s : State) → is_unknown (call_performed_by (EndCall rest) calls) ≡ true → end_need calls s ≡ answer_need [] s.memory
unknown-end_need [] rest s e = absurd (true≢false (sym e))
unknown-end_need (call ∷ outer) rest s e = go (function_of call) e
  where
    go : (f : Option Function) → is_none f ≡ true → size s.memory - 1 + built f (arguments call) (world_of s) ≡ answer_need [] s.memory
    go None e = refl
    go (Some f) e = absurd (true≢false (sym e))

unknown-need_by : (r : Rule) (s : State) → is_unknown (call_performed_by r s.memory.calls) ≡ true → need_by r s ≡ answer_need [] s.memory
unknown-need_by (EndCall rest) s e = unknown-end_need s.memory.calls rest s e
unknown-need_by _ s e = absurd (true≢false (sym e))

pub unknown-need : (s : State) → calls_unknown s.memory ≡ true → need s ≡ answer_need [] s.memory
unfolding need
unknown-need s e = unknown-need_by (rule s.memory.active) s e

unknown-end_reads : (calls : List OpenCall) (rest : Text) (w : World) → is_unknown (call_performed_by (EndCall rest) calls) ≡ true → end_reads_last calls w ≡ false
unknown-end_reads [] rest w e = absurd (true≢false (sym e))
unknown-end_reads (call ∷ outer) rest w e = go (function_of call) e
  where
    go : (f : Option Function) → is_none f ≡ true → reads_last f w ≡ false
    go None e = refl
    go (Some f) e = absurd (true≢false (sym e))

unknown-reads_by : (r : Rule) (s : State) → is_unknown (call_performed_by r s.memory.calls) ≡ true → reads_last_by r s ≡ false
unknown-reads_by (EndCall rest) s e = unknown-end_reads s.memory.calls rest (world_of s) e
unknown-reads_by _ s e = absurd (true≢false (sym e))

pub null-answers : (old new : Moment) (fate : Option Fate) → calls_unknown old.machine.memory ≡ true → Answered ByMode [] old fate new → Answers old fate new
null-answers old new None unknown a =
    let need_is = unknown-need (state_of old) unknown in
    record {
      may = record { allowed = a.allowed; fits = let fits = a.fits in omega (arith, need_is, fits) };
      goes = unknown-step (state_of old) unknown ∙ a.goes;
      counts = record { steps = a.counts.steps; peak = a.counts.peak ∙ ap (max old.machine.peak) (sym need_is) };
      stays_ended = λ e. ap (λ (s : Stream). s.ended) a.source ∙ e;
      read_all = λ reads. absurd (true≢false (sym reads ∙ unknown-reads_by (rule old.machine.memory.active) (state_of old) unknown));
    }
null-answers old new (Some Workspace) unknown a =
    let need_is = unknown-need (state_of old) unknown in
    record { allowed = a.allowed; full = let full = a.full in omega (arith, need_is, full); counts = a.counts; written = a.written }
null-answers old new (Some Steps) unknown a = a
null-answers old new (Some _) unknown a = absurd a

-- ---- over the contents of a workspace

module _ (old w : Contents) (place : ℕ) (p : ClosesCall old w place) where
  -- the step with the host's value
  pub goes-answered : (how : Delivery) (value : Text) (meta : ℕ) (input : Input) (output : Text) → answered how value (state_with (memory_of meta old) input output) ≡ Next (state_with (memory_of meta (delivered (mode_by how (mode_at w.neutral place)) (is_forced how) value place w)) input output)
  goes-answered how value meta input output =
      let mode = mode_at w.neutral place in
      let ends : answered how value (state_with (memory_of meta old) input output) ≡ perform (mode_by how mode) (answer_of how value (world w.forms meta input)) (state_with (memory_of meta (closed w place)) input output) =
      rw (p.same, rule_end (text_of_cells w.active), neutral_of-innermost w.neutral place p.innermost, grown-mode (opened mode) (drop (place + 1) w.neutral)) refl in
      ends ∙ go how ∙ ap (λ output. Next (state_with (deliver (mode_by how mode) (is_forced how) value (memory_of meta (closed w place))) input output)) (append-nil output)
      ∙ ap (λ m. Next (state_with m input output)) (sym (memory-delivered (mode_by how mode) (is_forced how) value place meta w))
    where
      go : (how : Delivery) → perform (mode_by how (mode_at w.neutral place)) (answer_of how value (world w.forms meta input)) (state_with (memory_of meta (closed w place)) input output) ≡ Next (state_with (deliver (mode_by how (mode_at w.neutral place)) (is_forced how) value (memory_of meta (closed w place))) input (output ++ []))
      go ByMode = refl
      go Scanned = refl
      go Unscanned = refl

-- a call of no function is performed
pub unknown-innermost : (w : Contents) (place meta : ℕ) → slice_get (text_of_cells w.active) 0 ≡ Some 41 → IsLastCall w.neutral place → calls_unknown (memory_of meta w) ≡ is_none (function_at w.neutral place)
unknown-innermost w place meta first last =
    ap is_unknown (call-innermost w place meta first last) ∙ rw (arguments-call_at w.neutral place last) refl

-- a function that there is
pub some-known : {A : Type 0} (o : Option A) → is_some o ≡ true → is_none o ≡ false
some-known None e = absurd (true≢false (sym e))
some-known (Some f) e = refl

pub none-known : {A : Type 0} (o : Option A) → is_some o ≡ false → o ≡ None
none-known None e = refl
none-known (Some f) e = absurd (true≢false e)

-- whether there is one is what it is found by
pub is-found : {A : Type 0} (o : Option A) (b : Bool) → MatchOption o (b ≡ false) (λ a. b ≡ true) → is_some o ≡ b
is-found None b e = sym e
is-found (Some a) b e = sym e

-- over the contents `old` the call at `place` ends with the host's value, or there is no room for that
pub record EndsWith (how : Delivery) (value : Text) (place : ℕ) (old new : Contents) (need : ℕ) (fate : Option Fate) : Type 0 where
  pub sound : IsSound old
  pub first : slice_get (text_of_cells old.active) 0 ≡ Some 41
  pub last : IsLastCall old.neutral place
  pub fits : need ≤ old.room
  pub ended :
      MatchOption fate ((need ≡ used old - 1 + length value) × (new ≡ delivered (mode_by how (mode_at old.neutral place)) (is_forced how) value place (record old { active = drop 1 old.active })))
      (λ fate. (fate ≡ Workspace) × ((old.room < used old - 1 + length value) × (new ≡ old)))

-- what a machine over some contents answers with the host's value
pub tells-answered : (how : Delivery) (value : Text) (place need : ℕ) (fate : Option Fate) (old : Scene) (new : Contents) → EndsWith how value place old.contents new need fate → (m : MachineState) → m.room ≡ old.contents.room → m.memory ≡ memory_of old.meta old.contents → m.steps < m.allowance → Answered how value (moment m old.source old.written) fate (moment (counted m (memory_of old.meta new) need fate) old.source old.written)
tells-answered how value place need None old new h = λ m room_is memory_is allowed.
    let w = old.contents in
    let after = record w { active = drop 1 w.active } in
    let need_is : need ≡ answer_need value m.memory = let is = h.ended.0 in omega (arith, is, ap size memory_is ∙ size-used old.meta w) in
    record {
      allowed = allowed;
      fits = omega (arith, need_is, h.fits, room_is);
      goes = rw memory_is (goes-answered w after place (performs-closed w after place h.sound h.first h.last refl) how value old.meta (ending old.source.bytes) old.written) ∙ ap (λ (w : Contents). Next (state_with (memory_of old.meta w) (ending old.source.bytes) old.written)) (sym h.ended.1);
      counts = record { steps = refl; peak = ap (max m.peak) need_is };
      source = refl;
    }
tells-answered how value place need (Some Workspace) old new h = λ m room_is memory_is allowed.
    let full = h.ended.1.0 in
    record {
      allowed = allowed;
      full = omega (arith, full, ap size memory_is ∙ size-used old.meta old.contents, room_is);
      counts = record { steps = omega arith; peak = omega arith };
      memory = ap (memory_of old.meta) h.ended.1.1 ∙ sym memory_is;
      source = refl;
      written = refl;
    }
tells-answered how value place need (Some _) old new h = absurd (let no = h.ended.0 in cc)
