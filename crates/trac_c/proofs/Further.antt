-- The steps of a turn that didn't wait are steps over all bytes that may come behind its input.
use Rattle.trac_c.proofs.Imports.{◌≡◌, ℕ, zero, suc, ◌+◌, ◌-◌, ◌<◌, ◌≤◌, max, Bool, false, not, List, [], ◌∷◌, ◌++◌, length, take, Option, Some, None, refl, sym, ap, subst, ◌∙◌, ⊎_elim, arith, length-append, ◌==◌, nat_le, Text, Input, OpenCall, arguments, size, MachineState, Moment, moment, GoesOn, ending, state_with, state_of, awaited, next_function, next_printed, is_short, waits_for_input, followed_by, Goes, SomeTurned, TellsTurn, turn_number, wanted_by, TracReport, Turn, Full}
use Rattle.std.specs.List.{before_first, list_any}
use Rattle.std.proofs.lemmas.Bool.{and_cases, and_left, and_right, cases_Bool, true≢false, lt-ltb, leb-false, lt-leb, ne_eqb}
use Rattle.std.proofs.lemmas.List.Folds.{list_any-append}
use Rattle.trac_language.specs.declared.function.Function.{Function}
use Rattle.trac_language.specs.Meaning.{World, built}
use Rattle.trac_language.specs.Rule.{Rule, EndCall, rule}
use Rattle.trac_language.specs.Step.{function_of, end_need, need_by, need}
use Rattle.trac_devices.specs.Devices.{Stream}
use Rattle.trac_laws.specs.LastRead.{is_read_string, reads_last, end_reads_last, reads_last_by, reads_to_end}
use Rattle.trac_laws.proofs.TakenInput.{Kind, IsString, IsCharacter, IsOther, kind}
use Rattle.trac_laws.proofs.FurtherInput.{any_still, still_not_last, reads_no_further_law}
use Rattle.trac_core.specs.declared.machine.session.Awaits.{Awaits}
use Rattle.trac_core.specs.declared.machine.session.Awaits.TheVariants.{Nothing, Byte, Text as AwaitsText}
use Rattle.trac_core.specs.Performed.{performed_by, performs}
use Rattle.trac_core.proofs.MetaCharacters.{before-none}
use Rattle.trac_c.specs.declared.turn.Turn.TheVariants.{Waits}
use Rattle.trac_c.specs.Turns.{MayGetMore}

-- ---- a step that fits the room and doesn't wait doesn't read to the end

module _ (m : MachineState) (bytes : Text) where
  is_meta : ℕ → Bool
  is_meta c = c == m.memory.meta

  world : World
  world = record { forms = m.memory.forms; meta = m.memory.meta; input = ending bytes }

  string-ends : is_short AwaitsText m bytes ≡ false → size m.memory - 1 + length (before_first is_meta bytes) ≤ m.room → not (list_any is_meta bytes) ≡ false
  unfolding is_meta
  string-ends enough fits =
      ⊎_elim
      (λ has. has)
      (λ long. ⊎_elim (λ any. ap not any)
      (λ none.
      let all : length (before_first is_meta bytes) ≡ length bytes = ap length (before-none is_meta bytes none) in
      let more = leb-false (length bytes + size m.memory) (m.room + 1) long in
      absurd (omega (arith, fits, all, more)))
      (cases_Bool (list_any is_meta bytes)))
      (and_cases (not (list_any is_meta bytes)) (nat_le (length bytes + size m.memory) (m.room + 1)) enough)

  CallEnds : List Text → Function → Type 0
  CallEnds args f = is_short (awaited (Some f)) m bytes ≡ false → size m.memory - 1 + built (Some f) args world ≤ m.room → reads_last (Some f) world ≡ false

  call-ends : (f : Option Function) (args : List Text) → is_short (awaited f) m bytes ≡ false → size m.memory - 1 + built f args world ≤ m.room → reads_last f world ≡ false
  unfolding CallEnds is_meta world
  call-ends None args enough fits = refl
  call-ends (Some f) args enough fits = go (kind f) enough fits
    where
      go : Kind f → CallEnds args f
      go (IsString e) = subst (CallEnds args) (sym e) (λ enough fits. string-ends enough fits)
      go (IsCharacter e) = subst (CallEnds args) (sym e) (λ enough fits. refl)
      go (IsOther e other) = λ enough fits. and_left (is_read_string f) (not (list_any is_meta bytes)) other

  innermost-ends : (rest written : Text) (calls : List OpenCall) → is_short (awaited (performed_by (EndCall rest) calls)) m bytes ≡ false → end_need calls (state_with m.memory (ending bytes) written) ≤ m.room → end_reads_last calls world ≡ false
  unfolding world
  innermost-ends rest written [] enough fits = refl
  innermost-ends rest written (call ∷ outer) enough fits = call-ends (function_of call) (arguments call) enough fits

  rule-ends : (written : Text) (r : Rule) → is_short (awaited (performed_by r m.memory.calls)) m bytes ≡ false → need_by r (state_with m.memory (ending bytes) written) ≤ m.room → reads_last_by r (state_with m.memory (ending bytes) written) ≡ false
  unfolding world
  rule-ends written (EndCall rest) enough fits = innermost-ends rest written m.memory.calls enough fits
  rule-ends written _ enough fits = refl

  performs-next : m.fate ≡ None → m.steps < m.allowance → next_function m ≡ performs m.memory
  performs-next going allowed = rw (going, lt-ltb m.steps m.allowance allowed) refl

  step-ends : (written : Text) → m.fate ≡ None → m.steps < m.allowance → is_short (awaited (next_function m)) m bytes ≡ false → need (state_with m.memory (ending bytes) written) ≤ m.room → reads_to_end (state_with m.memory (ending bytes) written) ≡ false
  unfolding need
  step-ends written going allowed enough fits =
      rule-ends written (rule m.memory.active)
      (sym (ap (λ f. is_short (awaited f) m bytes) (performs-next going allowed)) ∙ enough) fits

-- ---- nor does it wait with more bytes

more-enough : (a : Awaits) (m : MachineState) (bytes more : Text) → is_short a m bytes ≡ false → is_short a m (bytes ++ more) ≡ false
more-enough Nothing m bytes more enough = refl
more-enough AwaitsText m bytes more enough =
    let is_meta = λ (c : ℕ). c == m.memory.meta in
    let has = not (list_any is_meta (bytes ++ more)) in
    let within = nat_le (length (bytes ++ more) + size m.memory) (m.room + 1) in
    ⊎_elim
    (λ any. and_left has within (ap not (list_any-append is_meta bytes more) ∙ any_still (list_any is_meta bytes) (list_any is_meta more) any))
    (λ long.
    let less = leb-false (length bytes + size m.memory) (m.room + 1) long in
    let lengths = length-append bytes more in
    and_right has within (lt-leb (length (bytes ++ more) + size m.memory) (m.room + 1) (omega (arith, less, lengths))))
    (and_cases (not (list_any is_meta bytes)) (nat_le (length bytes + size m.memory) (m.room + 1)) enough)
more-enough Byte m [] more enough = absurd (true≢false enough)
more-enough Byte m (c ∷ bytes) more enough = ne_eqb (length (c ∷ (bytes ++ more))) 0 (λ e. omega arith)

-- ---- one step, and any number of them

goes-with-more : (old new : Moment) (more : Text) → old.machine.fate ≡ None → waits_for_input false old.machine old.source.bytes ≡ false → GoesOn old new → GoesOn (followed_by more old) (followed_by more new)
goes-with-more old new more going enough g =
    let last = step-ends old.machine old.source.bytes old.written going g.may.allowed enough g.may.fits in
    let same = reads_no_further_law (state_of old) (state_of new) more false refl last g.goes in
    record {
      may = record { allowed = g.may.allowed; fits = subst (λ n. n ≤ old.machine.room) (sym same.1) g.may.fits };
      goes = same.0;
      counts = record { steps = g.counts.steps; peak = g.counts.peak ∙ ap (max old.machine.peak) (sym same.1) };
      stays_ended = g.stays_ended;
      read_all = λ reads. absurd (true≢false (sym reads ∙ still_not_last (state_of old) more false last));
    }

all-with-more : (n : ℕ) (old new : Moment) (more : Text) (ended : Bool) → old.machine.fate ≡ None → Goes false n old new → (new.machine.fate ≡ None) × Goes ended n (followed_by more old) (followed_by more new)
all-with-more zero old new more ended going same = (ap (λ m. m.machine.fate) same ∙ going, ap (followed_by more) same)
all-with-more (suc n) old new more ended going goes =
    let middle = goes.0 in
    let before = all-with-more n old middle more ended going goes.1.0 in
    let step = goes.1.1 in
    let stays = more-enough (awaited (next_function middle.machine)) middle.machine middle.source.bytes more step.0 in (
      step.1.1.0,
      (
        followed_by more middle,
        (
          before.1,
          (
            and_right (not ended) (is_short (awaited (next_function middle.machine)) middle.machine (middle.source.bytes ++ more)) stays,
            (goes-with-more middle new more before.0 step.0 step.1.0, step.1.1),
          ),
        ),
      ),
    )

-- ---- what a turn tells

module _ (ended : Bool) (most : ℕ) (input buffer : Text) (old new : MachineState) (told : TracReport) (last : Turn) (left : Stream) where
  start : Moment
  start = moment old (record { bytes = input; ended = false }) []

  pub tells :
      old.fate ≡ None →
      SomeTurned ended most (moment old (record { bytes = input; ended = false }) []) last (moment new left (take told.written buffer)) →
      told.fate ≡ turn_number last →
      told.steps ≡ new.steps →
      told.peak ≡ new.peak →
      told.written ≤ length buffer →
      told.consumed ≡ length input - length left.bytes →
      told.wanted ≡ wanted_by last →
      ((printed : ℕ) → last ≡ Full printed → (length buffer < told.written + printed) × ((input : Input) → printed ≡ length (next_printed new input))) →
      (last ≡ Waits → MayGetMore new left.bytes) →
      TellsTurn ended most input buffer old new told last left
  unfolding start
  tells going turned fate steps peak written consumed wanted full waits =
      record {
        turned = turned;
        whole = λ unended more ends. (all-with-more turned.0 start turned.1.0 more ends going (subst (λ e. Goes e turned.0 start turned.1.0) unended turned.1.1.goes)).1;
        fate = fate;
        steps = steps;
        peak = peak;
        written = written;
        consumed = consumed;
        wanted = wanted;
        full = full;
        waits = waits;
      }
