-- What a run reports at its last step.
use Rattle.trac_core.proofs.Imports.{◌≡◌, ℕ, ◌+◌, ◌-◌, max, false, true, [], ◌++◌, Some, refl, sym, ap, ◌∙◌, subst, arith, append_assoc, append_cancel_left, Fate, Halted, InputEnded, Workspace, Steps, InputFailed, OutputFailed, Text, Memory, Input, State, first, need, Run, run, Report, MachineState, Moment, ending, failing, state_with, state_of, failing_state_of, StopsAtAllowance, StopsAtRoom, StopsAtInput, StopsAtOutput, EndsRun, Answers, Course, IsReportOf, RanThrough, RanToFailure, BrokeOff, ReportsOf, Reports, Resumes, after_steps, first_runs, later_runs, fresh_machine, KeepsFormsAndMeta, LeavesMemory, memory_after, state_after}
use Rattle.trac_language.specs.Run.{counted}
use Rattle.trac_laws.proofs.Reached.{state_none, state_over, reached_over, reached_full, reached_spent, reached_unwritten}
use Rattle.trac_laws.proofs.ReachedWhileReading.{anywhere_failed}
use Rattle.trac_core.proofs.Outputs.{later_run, run-from}
use Rattle.trac_core.proofs.Moments.{OnCourse}

-- what a machine reports that stands so
abbrev pub report_of : Fate → MachineState → Report
report_of fate m = record { fate = fate; steps = m.steps; peak = m.peak }

-- a run from these bytes and this output up to now
abbrev pub course_to : MachineState → Text → Text → Moment → Course
course_to start bytes before now =
    record { room = start.room; allowance = start.allowance; bytes = bytes; bytes_left = now.source.bytes; before = before; after = now.written }

-- the numbers of a run
abbrev run_with : Text → Text → Fate → ℕ → ℕ → Run
run_with output left fate steps peak = record { output = output; left = left; fate = fate; steps = steps; peak = peak }

module _ (start : MachineState) (bytes before : Text) (old new : Moment) (room_is : old.machine.room ≡ start.room) (allowance_is : old.machine.allowance ≡ start.allowance) (course : OnCourse start bytes before old) where
  -- a run whose numbers are known, behind a course of the start's steps with its peak
  is-report : (fate : Fate) (r : Run) (left : Text) (steps peak : ℕ) → record r { output = before ++ r.output } ≡ run_with old.written left fate steps peak → new.written ≡ old.written → new.machine.steps ≡ start.steps + steps → new.machine.peak ≡ max start.peak peak → IsReportOf (after_steps start.steps start.peak r) (course_to start bytes before new) (report_of fate new.machine)
  is-report fate r left steps peak e after steps_is peak_is =
      record {
        fate = sym (ap (λ (r : Run). r.fate) e);
        steps = steps_is ∙ ap (λ n. start.steps + n) (sym (ap (λ (r : Run). r.steps) e));
        peak = peak_is ∙ ap (max start.peak) (sym (ap (λ (r : Run). r.peak) e));
        written = after ∙ sym (ap (λ (r : Run). r.output) e);
      }

  pub at-allowance : StopsAtAllowance old new → RanThrough (later_runs start) (course_to start bytes before new) (report_of Steps new.machine)
  at-allowance stop =
      let from = state_with start.memory (ending bytes) before in
      let n = course.count in
      let total : start.allowance - start.steps ≡ n = omega (arith, stop.used_up, allowance_is) in
      let whole = sym (run-from start.room (start.allowance - start.steps) start.memory (ending bytes) before) ∙ ap (λ k. run start.room k from) total ∙ reached_spent start.room from n course.peak (state_of old) course.whole in
      record {
        is_report = is-report Steps _ old.source.bytes n course.peak whole stop.written (omega arith) (omega arith);
        left = ap (λ s. s.bytes) stop.source ∙ sym (ap (λ (r : Run). r.left) whole);
      }

  pub at-room : StopsAtRoom old new → IsReportOf (later_runs start (ending bytes) start.allowance) (course_to start bytes before new) (report_of Workspace new.machine)
  at-room stop =
      let from = state_with start.memory (ending bytes) before in
      let n = course.count in
      let whole = sym (run-from start.room (start.allowance - start.steps) start.memory (ending bytes) before) ∙ reached_full start.room from n course.peak (state_of old) course.whole (start.allowance - start.steps) (omega arith) (omega arith) in
      is-report Workspace _ old.source.bytes n course.peak whole stop.written (omega arith) (omega arith)

  pub at-end : (fate : Fate) → counted fate ≡ 1 → EndsRun fate old new → RanThrough (later_runs start) (course_to start bytes before new) (report_of fate new.machine)
  at-end fate counts_one stop =
      let from = state_with start.memory (ending bytes) before in
      let n = course.count in
      let whole = sym (run-from start.room (start.allowance - start.steps) start.memory (ending bytes) before) ∙ reached_over start.room from n course.peak (state_of old) course.whole (start.allowance - start.steps) fate (omega arith) (omega arith) stop.ends in
      record {
        is_report = is-report fate _ old.source.bytes (n + counted fate) (max course.peak (need (state_of old))) whole stop.written (omega arith) (omega arith);
        left = stop.source ∙ sym (ap (λ (r : Run). r.left) whole);
      }

  pub at-input : (given : Text) → StopsAtInput old new given → (all : Text) × RanToFailure (later_runs start) (course_to start bytes before new) (report_of InputFailed new.machine) all
  at-input given stop =
      let taken = course.given in
      let n = course.count in
      let whole = sym (run-from start.room (start.allowance - start.steps) start.memory (failing (taken ++ given)) before)
      ∙ anywhere_failed start.room start.memory before taken n course.peak old.machine.memory old.written (course.cut stop.not_ended) given (start.allowance - start.steps) (omega arith) (omega arith) stop.ends in (
        taken ++ given,
        record {
          consumed = course.consumed ∙ ap (λ t. taken ++ t) stop.consumed ∙ sym (append_assoc taken given new.source.bytes);
          is_report = is-report InputFailed _ given (n + 0) (max course.peak (need (failing_state_of old given))) whole stop.written (omega arith) (omega arith);
        },
      )

  pub at-output : (next : State) (put rest : Text) → StopsAtOutput old new next put rest → BrokeOff (later_runs start) (course_to start bytes before new) (report_of OutputFailed new.machine) put rest
  at-output next put rest stop =
      let from = state_with start.memory (ending bytes) before in
      let n = course.count in
      let same : new.machine.steps - start.steps ≡ n = omega arith in
      let more : new.machine.steps + 1 - start.steps ≡ n + 1 = omega arith in
      let runs = reached_unwritten start.room from n course.peak (state_of old) next course.whole (omega arith) stop.goes in
      let before_is = ap (λ k. later_run before (run start.room k (state_with start.memory (ending bytes) []))) same ∙ sym (run-from start.room n start.memory (ending bytes) before) ∙ runs.0 in
      let after_is = ap (λ k. later_run before (run start.room k (state_with start.memory (ending bytes) []))) more ∙ sym (run-from start.room (n + 1) start.memory (ending bytes) before) ∙ runs.1 in
      let out_before = ap (λ (r : Run). r.output) before_is in
      let out_after = ap (λ (r : Run). r.output) after_is in
      let peak_after : new.machine.peak ≡ max start.peak (max course.peak (need (state_of old))) = omega arith in
      record {
        allowed = omega arith;
        before_step = ap (λ (r : Run). r.fate) before_is;
        after_step = ap (λ (r : Run). r.fate) after_is;
        peak = peak_after ∙ ap (max start.peak) (sym (ap (λ (r : Run). r.peak) after_is));
        prints = append_cancel_left before _ _ (out_after ∙ stop.prints ∙ ap (λ t. t ++ (put ++ rest)) (sym out_before) ∙ append_assoc before _ (put ++ rest));
        some = stop.some;
        written = stop.written ∙ ap (λ t. t ++ put) (sym out_before) ∙ append_assoc before _ put;
      }

  -- what the last answer of a run says is what the run reports
  pub reported : (fate : Fate) → Answers old (Some fate) new → Resumes start fate (course_to start bytes before new) (report_of fate new.machine)
  reported Halted stop = at-end Halted refl stop
  reported InputEnded stop = at-end InputEnded refl stop
  reported Steps stop = at-allowance stop
  reported Workspace stop = at-room stop
  reported InputFailed stop = at-input stop.0 stop.1
  reported OutputFailed stop = (stop.1.0, (stop.1.1.0, at-output stop.0 stop.1.0 stop.1.1.0 stop.1.1.1))

-- the forms and the meta character stay, up to a last step that leaves the state as it is
kept-before : (last old new : Memory) → last ≡ old → KeepsFormsAndMeta old new → KeepsFormsAndMeta last new
kept-before last old new same keeps = subst (λ m. KeepsFormsAndMeta m new) (sym same) keeps

module _ (start : MachineState) (bytes before : Text) (old new : Moment) (course : OnCourse start bytes before old) where
  -- the definition's steps come to the machine's memory, and stay there with a step that ends the run
  steps-lead : (k : ℕ) → state_after k (state_of old) ≡ state_of old → new.machine.steps ≡ old.machine.steps + k → memory_after (new.machine.steps - start.steps) start.memory (ending bytes) before ≡ old.machine.memory
  steps-lead k stays steps_is =
      let n : new.machine.steps - start.steps ≡ course.count + k = omega (arith, course.steps_is) in
      ap (λ s. s.memory) (ap (λ n. state_after n (state_with start.memory (ending bytes) before)) n ∙ course.whole.state k ∙ stays)

  steps-lead-failing : (given : Text) → old.source.ended ≡ false → new.machine.steps ≡ old.machine.steps → memory_after (new.machine.steps - start.steps) start.memory (failing (course.given ++ given)) before ≡ old.machine.memory
  steps-lead-failing given open_still steps_is =
      let n : new.machine.steps - start.steps ≡ course.count + 0 = omega (arith, course.steps_is) in
      let reached = (course.cut open_still).is given true in
      ap (λ s. s.memory) (ap (λ n. state_after n (state_with start.memory (failing (course.given ++ given)) before)) n ∙ reached.state 0 ∙ state_none (failing_state_of old given))

  -- what the last answer of a run leaves
  pub left-behind : (fate : Fate) → Answers old (Some fate) new → (after : Memory) → KeepsFormsAndMeta old.machine.memory after → (fate ≡ Steps → after ≡ old.machine.memory) → LeavesMemory fate (course_to start bytes before new) start.memory (new.machine.steps - start.steps) after
  left-behind Halted stop after keeps all = kept-before _ _ after (steps-lead 1 (state_over 1 (state_of old) Halted stop.ends) stop.counts.steps) keeps
  left-behind InputEnded stop after keeps all = kept-before _ _ after (steps-lead 1 (state_over 1 (state_of old) InputEnded stop.ends) stop.counts.steps) keeps
  left-behind Steps stop after keeps all = all refl ∙ sym (steps-lead 0 (state_none (state_of old)) stop.counts.steps)
  left-behind Workspace stop after keeps all = kept-before _ _ after (steps-lead 0 (state_none (state_of old)) stop.counts.steps) keeps
  left-behind InputFailed stop after keeps all =
      let given = stop.0 in
      let fails = stop.1 in
      let steps : new.machine.steps ≡ old.machine.steps = omega (arith, fails.counts.steps) in (
        course.given ++ given,
        (
          course.consumed ∙ ap (λ t. course.given ++ t) fails.consumed ∙ sym (append_assoc course.given given new.source.bytes),
          kept-before _ _ after (steps-lead-failing given fails.not_ended steps) keeps,
        ),
      )
  left-behind OutputFailed stop after keeps all =
      let breaks = stop.1.1.1 in
      kept-before _ _ after (steps-lead 0 (state_none (state_of old)) breaks.counts.steps) keeps

-- the runs from where a new machine stands are those from the first state
first-run : (room allowance : ℕ) (input : Input) (k : ℕ) → later_runs (fresh_machine room allowance) input k ≡ first_runs room input k
first-run room allowance input k =
    let same : k - 0 ≡ k = omega arith in
    let r = run room k (first input) in
    let steps : 0 + r.steps ≡ r.steps = omega arith in
    let peak : max 0 r.peak ≡ r.peak = omega arith in
    ap (λ n. after_steps 0 0 (run room n (first input))) same ∙ (λ i. record r { steps = steps i; peak = peak i })

pub reports-made : (m : MachineState) → m ≡ fresh_machine m.room m.allowance → (fate : Fate) (c : Course) (report : Report) → c.room ≡ m.room → Resumes m fate c report → Reports fate c report
reports-made m new fate c report room_is told =
    let runs : later_runs m ≡ first_runs c.room = ap later_runs new ∙ (λ i input k. first-run m.room m.allowance input k i) ∙ ap first_runs (sym room_is) in
    subst (λ runs. ReportsOf runs fate c report) runs told
