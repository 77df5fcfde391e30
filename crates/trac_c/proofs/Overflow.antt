-- What fits the buffer never fails, and stands in it.
use Rattle.std.specs.Prelude.{IsSome, ◌^◌}
use Rattle.std.proofs.lemmas.Bool.{lt-ltb}
use Rattle.trac_c.proofs.Imports.{◌≡◌, ◌≢◌, ℕ, ◌+◌, ◌<◌, ◌≤◌, [], ◌∷◌, ◌++◌, length, take, Option, Some, None, refl, sym, ap, subst, ◌∙◌, arith, length-append, append-nil, Text, Fate, MachineState, Moment, ending, state_with, state_of, GoesOn, next_printed, step_prints, length-take-le}
use Rattle.trac_language.specs.declared.fate.Fate.TheVariants.{InputFailed, OutputFailed, Halted, InputEnded, Workspace, Steps}
use Rattle.trac_language.specs.State.{State}
use Rattle.trac_language.specs.Step.{Outcome, Next}
unfoldable use Rattle.trac_language.specs.Step.{step}
use Rattle.trac_language.specs.Step.{Over as Ends}
use Rattle.trac_core.specs.Machine.{Answers, StopsAtOutput}
use Rattle.trac_core.specs.Session.{output_after}
use Rattle.trac_core.proofs.Outputs.{later_outcome, step-later}
use Rattle.trac_c.specs.Held.{listed, buffer_code}
use Rattle.trac_c.specs.declared.devices.OverflowSink.{OverflowSink}
use Rattle.trac_c.specs.Turns.{written_to, NoDeviceFailed}

-- a step that goes on adds to the output what it prints
adds : (written : Text) (o : Outcome) (next : State) → later_outcome written o ≡ Next next → next.output ≡ written ++ output_after o
adds written (Next t) next e = sym (ap (λ (o : Outcome). output_after o) e)
adds written (Ends f) next e = absurd cc

module _ (m : MachineState) (bytes written : Text) (going : m.fate ≡ None) (allowed : m.steps < m.allowance) where
  printed-is : next_printed m (ending bytes) ≡ step_prints m.memory (ending bytes)
  printed-is = rw (going, lt-ltb m.steps m.allowance allowed) refl

  pub prints-length : (next : State) → step (state_with m.memory (ending bytes) written) ≡ Next next → length next.output ≡ length written + length (next_printed m (ending bytes))
  prints-length next goes =
      let here = ap (λ t. step (state_with m.memory (ending bytes) t)) (append-nil written) ∙ goes in
      let later = sym (step-later written (state_with m.memory (ending bytes) [])) ∙ here in
      ap length (adds written (step (state_with m.memory (ending bytes) [])) next later)
      ∙ length-append written (step_prints m.memory (ending bytes))
      ∙ ap (λ t. length written + length t) (sym printed-is)

-- a sink over a buffer of `size` bytes that was given no more than these holds no byte behind it
pub behind-none : (behind : Option ℕ) (len size : ℕ) (front : Text) → length front ≡ len → (IsSome behind → size ≤ len) → length (front ++ listed behind) ≤ size → behind ≡ None
behind-none None len size front long order fits = refl
behind-none (Some byte) len size front long order fits =
    let full = order cc in
    let all = length-append front (byte ∷ []) in
    absurd (omega (arith, full, all, long, fits))

behind-some : (behind : Option ℕ) (len size : ℕ) (front : Text) → IsSome behind → length front ≡ len → size ≤ len → size < length (front ++ listed behind)
behind-some None len size front some long full = absurd cc
behind-some (Some byte) len size front some long full =
    let all = length-append front (byte ∷ []) in
    omega (arith, full, all, long)

pub same-buffer : (a b c d : ℕ) → b < 2 ^ 64 → d < 2 ^ 64 → buffer_code a b ≡ buffer_code c d → (a ≡ c) × (b ≡ d)
same-buffer a b c d less below same = (omega (arith, less, below, same), omega (arith, less, below, same))

-- after a step that prints no more than there is room for, at most `size` bytes are written
pub within-after : (old new : Moment) (size : ℕ) → old.machine.fate ≡ None → length old.written + length (next_printed old.machine (ending old.source.bytes)) ≤ size → GoesOn old new → length new.written ≤ size
within-after old new size going room goes =
    let long = prints-length old.machine old.source.bytes old.written going goes.may.allowed (state_of new) goes.goes in
    omega (arith, room, long)

pub within-ended : (fate : Fate) (old new : Moment) (size : ℕ) → NoDeviceFailed fate → length old.written ≤ size → Answers old (Some fate) new → length new.written ≤ size
within-ended Halted old new size none fits stop = let same = ap length stop.written in omega (arith, same, fits)
within-ended InputEnded old new size none fits stop = let same = ap length stop.written in omega (arith, same, fits)
within-ended Workspace old new size none fits stop = let same = ap length stop.written in omega (arith, same, fits)
within-ended Steps old new size none fits stop = let same = ap length stop.written in omega (arith, same, fits)
within-ended InputFailed old new size none fits stop = absurd (none.0 refl)
within-ended OutputFailed old new size none fits stop = absurd (none.1 refl)

-- a step that prints no more than there is room for isn't ended by the sink, which fails only where more is written
pub not-broken : (fate : Fate) (old new : Moment) (size : ℕ) → old.machine.fate ≡ None → length old.written + length (next_printed old.machine (ending old.source.bytes)) ≤ size → Answers old (Some fate) new → (fate ≡ OutputFailed → size < length new.written) → fate ≢ OutputFailed
not-broken fate old new size going room stop more e =
    let stops = subst (λ fate. Answers old (Some fate) new) e stop in
    let next = stops.0 in
    let put = stops.1.0 in
    let rest = stops.1.1.0 in
    let broke : StopsAtOutput old new next put rest = stops.1.1.1 in
    let long = prints-length old.machine old.source.bytes old.written going broke.may.allowed next broke.goes in
    let whole = ap length broke.prints ∙ length-append old.written (put ++ rest) in
    let parts = length-append put rest in
    let written = ap length broke.written ∙ length-append old.written put in
    absurd (omega (arith, long, whole, parts, written, room, more e))

-- the front of the buffer has as many bytes as the sink counts
front-length : (sink : OverflowSink) → length (take sink.len sink.room.now) ≡ sink.len
front-length sink = length-take-le sink.len sink.room.now sink.within

pub room-left : (sink : OverflowSink) (printed free : ℕ) → sink.behind ≡ None → free + sink.len ≡ length sink.room.now → printed ≤ free → length (written_to sink) + printed ≤ length sink.room.now
room-left sink printed free none left fits =
    let all = length-append (take sink.len sink.room.now) (listed sink.behind) in
    let nothing = ap (λ b. length (listed b)) none in
    omega (arith, all, nothing, front-length sink, left, fits)

pub none-behind : (sink : OverflowSink) (size : ℕ) → size ≡ length sink.room.now → length (written_to sink) ≤ size → sink.behind ≡ None
none-behind sink size same fits = behind-none sink.behind sink.len (length sink.room.now) (take sink.len sink.room.now) (front-length sink) sink.order (omega (arith, same, fits))

pub broken-more : (sink : OverflowSink) (size : ℕ) → size ≡ length sink.room.now → 0 < sink.failures → size < length (written_to sink)
broken-more sink size same some =
    let more = behind-some sink.behind sink.len (length sink.room.now) (take sink.len sink.room.now) (sink.full some) (front-length sink) (sink.order (sink.full some)) in
    omega (arith, same, more)
