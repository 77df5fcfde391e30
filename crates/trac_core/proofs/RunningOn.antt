-- A run with a source and a sink, step by step beside the run of the definition.
use Rattle.trac_core.proofs.Imports.{◌≡◌, ◌≢◌, ℕ, zero, suc, ◌+◌, ◌-◌, ◌≤◌, max, ◌⊎◌, ⊎_elim, inl, inr, [], Option, Some, None, unwrap_or, refl, sym, ap, ◌∙◌, subst, arith, Fate, Steps, OutputFailed, Text, Stream, Sent, Contents, used, memory_of, MachineState, Moment, moment, KeepsSettings, Resumes, LeavesMemory, StopsAtAllowance, input_failures, output_failures, Advances, StepsAlone, Standing, standing, PerformedWith, Driven, GoesBy, StepsBy, StopsBy}
use Rattle.trac_functions.proofs.FlatLemmas.{size-used}
use Rattle.trac_core.proofs.Moments.{OnCourse, course-none, course-more}
use Rattle.trac_core.proofs.Reported.{reported, left-behind, report_of, course_to}
use Rattle.trac_core.proofs.Sending.{sent-more}
use Rattle.trac_core.proofs.StepsInRow.{passes-smaller}

-- a need is that of the next step, or is counted as that is
abbrev pub IsNeed : (need cells peak : ℕ) → Type 0
IsNeed need cells peak = (need ≡ cells) ⊎ ((cells ≤ peak) × (need ≤ peak))

pub need-fits : (need cells peak room : ℕ) → cells ≤ room → peak ≤ room → IsNeed need cells peak → max peak need ≤ room
need-fits need cells peak room fits below (inl same) = omega arith
need-fits need cells peak room fits below (inr known) = let a = known.1 in omega arith

-- after steps that perform no call it is counted
pub need-counted : (done need peak top : ℕ) (w new : Contents) → Advances done w new → IsNeed need (used w) peak → top ≡ max peak need → IsNeed need (used new) top
need-counted done need peak top w new passes known is =
    let less = passes-smaller done (memory_of 0 w) (memory_of 0 new) (passes 0) in
    let smaller : used new ≤ used w = omega (arith, less, size-used 0 w, size-used 0 new) in
    inr (go smaller known)
  where
    go : used new ≤ used w → IsNeed need (used w) peak → (used new ≤ top) × (need ≤ top)
    go smaller (inl same) = (omega arith, omega arith)
    go smaller (inr counted) = let a = counted.0 in let b = counted.1 in (omega arith, omega arith)

module _ {I O L : Type 0} (tells : I → Type 0) (stream : I → Stream) (failures : I → ℕ) (told flushed : O → Type 0) (written : O → Text) (lent : O → L) (broken : O → ℕ) where
  abbrev moment_of : Standing I O → Moment
  moment_of s = moment s.machine (stream s.source) (written s.sink)

  -- no device has failed up to now, and the run is that of the definition
  record RunsOn (start now : Standing I O) : Type 0 where
    room : now.machine.room ≡ start.machine.room
    allowance : now.machine.allowance ≡ start.machine.allowance
    inputs : failures now.source ≡ failures start.source
    outputs : broken now.sink ≡ broken start.sink
    kept : lent now.sink ≡ lent start.sink
    told_source : tells start.source → tells now.source
    told_sink : told start.sink → told now.sink
    sent : Sent told flushed written start.sink now.sink
    course : tells start.source → told start.sink → OnCourse start.machine (stream start.source).bytes (written start.sink) (moment_of now)

  runs-first : (start : Standing I O) → RunsOn start start
  runs-first start =
      record { room = refl; allowance = refl; inputs = refl; outputs = refl; kept = refl; told_source = λ tells. tells; told_sink = λ told. told; sent = inl refl; course = λ tells told. course-none start.machine (stream start.source) (written start.sink) }

  -- a step that needs no device, as one with devices
  with-devices : (m next : MachineState) (source : I) (sink : O) → StepsAlone m next → PerformedWith tells stream failures told flushed written lent broken (standing m source sink) None (standing next source sink)
  with-devices m next source sink step =
      record {
        answers = λ tells told. step.goes (stream source) (written sink);
        takes = λ tells. ([], (refl, omega arith));
        source = (λ tells. tells, omega arith, λ reads. refl);
        sink = (λ told. told, omega arith, λ prints. refl, refl, λ some. inl refl);
        unspent = λ e. absurd cc;
        keeps = λ some. absurd (some refl);
      }

  -- a step of a chain
  step-with : (old new : Standing I O) → StepsBy (PerformedWith tells stream failures told flushed written lent broken) old new → KeepsSettings old.machine new.machine × PerformedWith tells stream failures told flushed written lent broken old None new
  step-with old new step =
      ⊎_elim (λ alone. (alone.0.settings, subst (PerformedWith tells stream failures told flushed written lent broken old None) (sym alone.1) (with-devices old.machine new.machine old.source old.sink alone.0)))
      (λ done. (done.0, done.1)) step

  runs-performed : (start now next : Standing I O) → KeepsSettings now.machine next.machine → PerformedWith tells stream failures told flushed written lent broken now None next → RunsOn start now → RunsOn start next
  runs-performed start now next settings h i =
      record {
        room = settings.room ∙ i.room;
        allowance = settings.allowance ∙ i.allowance;
        inputs = omega (arith, i.inputs, h.source.1);
        outputs = omega (arith, i.outputs, h.sink.1);
        kept = h.sink.3 ∙ i.kept;
        told_source = λ tells. h.source.0 (i.told_source tells);
        told_sink = λ told. h.sink.0 (i.told_sink told);
        sent = sent-more told flushed written start.sink now.sink next.sink i.told_sink i.sent (h.sink.4 (λ e. absurd cc));
        course = λ tells told.
            let took = h.takes (i.told_source tells) in
            course-more start.machine (stream start.source).bytes (written start.sink) took.0 (moment_of now) (moment_of next) i.room took.1.0 (i.course tells told) (h.answers (i.told_source tells) (i.told_sink told));
      }

  runs-on : (n : ℕ) (start now : Standing I O) → GoesBy (PerformedWith tells stream failures told flushed written lent broken) n start now → RunsOn start now
  runs-on zero start now goes = subst (RunsOn start) (sym goes) (runs-first start)
  runs-on (suc n) start now goes =
      let step = step-with goes.0 now goes.1.1 in
      runs-performed start goes.0 now step.0 step.1 (runs-on n start goes.0 goes.1.0)

  -- the run ended with a fate, and is that of the definition
  pub record RunEnds (start last : Standing I O) (fate : Fate) : Type 0 where
    pub reports : tells start.source → told start.sink → Resumes start.machine fate (course_to start.machine (stream start.source).bytes (written start.sink) (moment_of last)) (report_of fate last.machine)
    pub leaves : tells start.source → told start.sink → LeavesMemory fate (course_to start.machine (stream start.source).bytes (written start.sink) (moment_of last)) start.machine.memory (last.machine.steps - start.machine.steps) last.machine.memory
    pub input_failed : failures last.source ≡ failures start.source + input_failures None (Some fate)
    pub output_failed : broken last.sink ≡ broken start.sink + output_failures None (Some fate)
    pub sent : fate ≢ OutputFailed → Sent told flushed written start.sink last.sink
    pub told_source : tells start.source → tells last.source
    pub told_sink : told start.sink → told last.sink
    pub kept : lent last.sink ≡ lent start.sink

  -- at its last step
  pub run-ends : (start last : Standing I O) (most n : ℕ) → start.machine.steps + most ≡ start.machine.allowance → (last.machine.fate ≡ None → last.machine.steps ≡ start.machine.steps + n) → Driven (PerformedWith tells stream failures told flushed written lent broken) (λ memory. ⊥) most n start last → RunEnds start last (unwrap_or last.machine.fate Steps)
  run-ends start last most n most_is counts driven = go last.machine.fate counts driven.1.1
    where
      before : Standing I O
      before = driven.0

      goes : GoesBy (PerformedWith tells stream failures told flushed written lent broken) n start before
      goes = driven.1.0

      go : (fate : Option Fate) → (fate ≡ None → last.machine.steps ≡ start.machine.steps + n) → StopsBy (PerformedWith tells stream failures told flushed written lent broken) (λ memory. ⊥) most n before fate last → RunEnds start last (unwrap_or fate Steps)
      go None counts why =
          let i = subst (RunsOn start) (sym why.0) (runs-on n start before goes) in
          let used_up : last.machine.steps ≡ last.machine.allowance =
          ⊎_elim (λ wanted. omega (arith, counts refl, wanted, most_is, i.allowance))
          (⊎_elim (λ used. subst (λ (s : Standing I O). s.machine.steps ≡ s.machine.allowance) (sym why.0) used) (λ no. absurd no)) why.1 in
          let stop : StopsAtAllowance (moment_of last) (moment_of last) = record { used_up = used_up; memory = refl; counts = record { steps = omega arith; peak = omega arith }; source = refl; written = refl } in
          record {
            reports = λ tells told. reported start.machine (stream start.source).bytes (written start.sink) (moment_of last) (moment_of last) i.room i.allowance (i.course tells told) Steps stop;
            leaves = λ tells told. left-behind start.machine (stream start.source).bytes (written start.sink) (moment_of last) (moment_of last) (i.course tells told) Steps stop last.machine.memory (refl, refl) (λ e. refl);
            input_failed = omega (arith, i.inputs);
            output_failed = omega (arith, i.outputs);
            sent = λ other. i.sent;
            told_source = i.told_source;
            told_sink = i.told_sink;
            kept = i.kept;
          }
      go (Some fate) counts why =
          let i = runs-on n start before goes in
          let h = why.1 in
          record {
            reports = λ tells told. reported start.machine (stream start.source).bytes (written start.sink) (moment_of before) (moment_of last) i.room i.allowance (i.course tells told) fate (h.answers (i.told_source tells) (i.told_sink told));
            leaves = λ tells told. left-behind start.machine (stream start.source).bytes (written start.sink) (moment_of before) (moment_of last) (i.course tells told) fate (h.answers (i.told_source tells) (i.told_sink told)) last.machine.memory (h.keeps (λ e. absurd cc)) (λ e. absurd (h.unspent (ap Some e)));
            input_failed = omega (arith, i.inputs, h.source.1);
            output_failed = omega (arith, i.outputs, h.sink.1);
            sent = λ other. sent-more told flushed written start.sink before.sink last.sink i.told_sink i.sent (h.sink.4 (λ e. other cc));
            told_source = λ tells. h.source.0 (i.told_source tells);
            told_sink = λ told. h.sink.0 (i.told_sink told);
            kept = h.sink.3 ∙ i.kept;
          }
