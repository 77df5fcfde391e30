-- What is told of a step that is shown.
use Rattle.trac_c.proofs.Imports.{Bool, Fate, Full, Goes, List, MachineState, None, Option, Over, Some, Text, TracReport, Turn, Went, [], ap, arith, false, length, moment, refl, stream_in, subst, suc, sym, take, zero, ℕ, ◌<◌, ◌∙◌, ◌∷◌, ◌≡◌, ◌≤◌}
use Rattle.std.specs.Prelude.{◌⊎◌, if◌then◌else◌, nat_le, true}
use Rattle.trac_devices.specs.Devices.{Stream}
use Rattle.trac_devices.specs.Slices.{slice_input}
use Rattle.trac_language.specs.declared.fate.Fate.TheVariants.{Halted, InputEnded, InputFailed, OutputFailed, Steps, Workspace}
use Rattle.trac_c.specs.Reports.{number}
use Rattle.trac_core.specs.Machine.{Moment}
use Rattle.trac_c.specs.Turns.{TellsTurn, waits_for_input}
use Rattle.trac_c.specs.declared.turn.Turn.TheVariants.{Waits, Asks}
use Rattle.std.specs.Prelude.{OnOk, is_ok}
use Rattle.std.specs.declared.result.Result.{Result}
use Rattle.std.specs.declared.result.Result.TheVariants.{Err, Ok}
use Rattle.trac_tracer.specs.ShownRuns.{StepDone}
use Rattle.trac_c.specs.Traced.{LosesLines, Tells, AddsStep, behind, is_waiting, reported}
use Rattle.trac_c.specs.Turns.{TurnedOrOver}
use Rattle.trac_c.specs.declared.trace.TracTrace.{TracTrace}

-- what a turn wrote fits its buffer
pub written-fits : (ended : Bool) (most : ℕ) (input buffer : Text) (old new : MachineState) (told : TracReport) → TurnedOrOver ended most input buffer old told new → told.written ≤ length buffer
written-fits ended most input buffer old new told h = go old.fate refl
  where
    go : (fate : Option Fate) → old.fate ≡ fate → told.written ≤ length buffer
    go None is = (h.turn is).1.1.written
    go (Some fate) is =
        let none = ap (λ (t : TracReport). t.written) (h.over fate is).1 in
        omega (arith, none)

-- no fate has the number of a turn that waits
number-not-7 : (fate : Fate) → number fate ≡ 7 → ⊥
number-not-7 Halted is = omega (arith, is)
number-not-7 InputEnded is = omega (arith, is)
number-not-7 Workspace is = omega (arith, is)
number-not-7 Steps is = omega (arith, is)
number-not-7 InputFailed is = omega (arith, is)
number-not-7 OutputFailed is = omega (arith, is)

-- a turn that waits leaves the machine as it was, whose run isn't over, and whose next step waits for input
module _ (ended : Bool) (input buffer : Text) (old new : MachineState) (told : TracReport) (waits : told.fate ≡ 7) where
  abbrev pub WaitsThere : Type 0
  WaitsThere = (new ≡ old) × (old.fate ≡ None) × (waits_for_input ended old input ≡ true)

  by-last : (last : Turn) (left : Stream) → old.fate ≡ None → TellsTurn ended 1 input buffer old new told last left → WaitsThere
  by-last Went left going tells =
      let is = tells.fate in
      absurd (omega (arith, waits, is))
  by-last Waits left going tells =
      let ends = tells.turned.1.1.ends in
      go tells.turned.0 ends.0 tells.turned.1.1.goes
    where
      go : (done : ℕ) → done < 1 → Goes ended done (moment old (record { bytes = input; ended = false }) []) tells.turned.1.0 → WaitsThere
      go zero less goes = (
        ap (λ m. m.machine) (tells.turned.1.1.ends.1.1 ∙ goes),
        going,
        subst (λ (m : Moment). waits_for_input ended m.machine m.source.bytes ≡ true) goes tells.turned.1.1.ends.1.0,
      )
      go (suc n) less goes = absurd (omega (arith, less))
  by-last (Full printed) left going tells =
      let is = tells.fate in
      absurd (omega (arith, waits, is))
  by-last Asks left going tells =
      let is = tells.fate in
      absurd (omega (arith, waits, is))
  by-last (Over fate) left going tells = absurd (number-not-7 fate (sym tells.fate ∙ waits))

  pub waits-same : TurnedOrOver ended 1 input buffer old told new → WaitsThere
  waits-same h = go old.fate refl
    where
      go : (fate : Option Fate) → old.fate ≡ fate → WaitsThere
      go None is = by-last (h.turn is).0 (h.turn is).1.0 is (h.turn is).1.1
      go (Some fate) is =
          let told_is = ap (λ (t : TracReport). t.fate) (h.over fate is).1 in
          absurd (number-not-7 fate (sym told_is ∙ waits))

-- a source over all bytes, behind which it fails
all-of : (bytes : List ℕ) → take (length bytes) bytes ≡ bytes
all-of [] = refl
all-of (b ∷ bytes) = ap (λ rest. b ∷ rest) (all-of bytes)

either : (is : Bool) (bytes some : List ℕ) → some ≡ bytes → (if is then some else bytes) ≡ bytes
either true bytes some same = same
either false bytes some same = refl

pub whole-slice : (bytes : List ℕ) → stream_in (slice_input bytes (Some (length bytes))) ≡ record { bytes = bytes; ended = false }
whole-slice bytes = ap (λ (given : List ℕ). record { bytes = given; ended = false }) (either (nat_le (length bytes) (length bytes)) bytes (take (length bytes) bytes) (all-of bytes))

-- a step is told, or its lines are lost
pub tells-step : (trace after : TracTrace) (turn told : TracReport) (done : StepDone) (old_lines lines : List ℕ) → is_waiting turn.fate ≡ false → ((told ≡ reported turn.fate after.peak turn) × AddsStep trace after done old_lines lines) ⊎ ((told ≡ reported 10 after.peak turn) × LosesLines trace after done old_lines lines) → Tells trace after turn told done old_lines lines
tells-step trace after turn told done old_lines lines goes is =
    record { waits = λ waits. absurd (let w = waits in let g = goes in cc); tells = λ _. is }

-- what holds where a result is Ok
pub when-ok : {A E : Type 0} (r : Result A E) (P : Type 0) → is_ok r ≡ true → OnOk r P → P
when-ok (Ok a) P ok h = h
when-ok (Err e) P ok h = absurd cc

-- a trace behind a step, by how many calls are open and by the peak
pub trace-behind : (trace b : TracTrace) (d p peak : ℕ) → b ≡ behind trace d p b → b.peak ≡ peak → b ≡ behind trace b.depth peak b
trace-behind trace b d p peak is peak_is =
    λ i. record (is i) { peak = peak_is i; depth = b.depth; line = b.line; column = b.column; string_line = b.string_line; string_column = b.string_column }
