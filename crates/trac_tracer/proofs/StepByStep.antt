-- A run that is shown, step by step beside the run of the definition.
use Rattle.std.proofs.Common.{◌≡◌, ℕ, suc, max, Bool, true, false, List, [], ◌++◌, Option, Some, None, refl, sym, ap, ◌∙◌, subst, append_assoc, append-nil, arith}
use mathlib.Core.Path.{transport}
use Rattle.std.specs.Prelude.{◌&&◌, IfSome, if◌then◌else◌, nat_lt, not, slice_index_or}
use Rattle.std.specs.Io.KnownBytes.{Appends}
use Rattle.std.proofs.KnownBytes.{Appends-trans}
use Rattle.trac_language.specs.declared.fate.Fate.{Fate}
use Rattle.trac_language.specs.declared.fate.Fate.TheVariants.{Halted, InputEnded}
use Rattle.trac_language.specs.Text.{Text}
use Rattle.trac_language.specs.State.{Memory, Input}
use Rattle.trac_language.specs.Step.{need}
use Rattle.trac_devices.specs.Devices.{Stream}
use Rattle.trac_core.specs.Machine.{MachineState, Moment, moment, state_of, state_with, Answers, counts_as_step, fresh_machine}
use Rattle.trac_core.proofs.Moments.{OnCourse, course-none, course-more}
use Rattle.trac_core.proofs.Reported.{course_to, report_of, reported, reports-made}
use Rattle.trac_events.specs.Calls.{IsSeen, SeesValue, depth_in, looks_at_call, seen_call}
use Rattle.trac_core.specs.declared.machine.open_calls.CallMark.{CallMark}
use Rattle.trac_space.specs.declared.cell.Cell.{Cell}
use Rattle.trac_events.specs.declared.before.Before.{Before}
use Rattle.trac_views.specs.Faults.{AddsEnd, AddsPrinted, AddsStep, AddsWhere, forms_text, is_shown_step}
use Rattle.trac_views.specs.Lines.{dropped_text, end_text, folded_text, head_text}
use Rattle.trac_views.specs.CallLines.{has_steps, has_strings, is_fault}
use Rattle.trac_views.specs.declared.views.Views.{Views}
use Rattle.trac_tracer.specs.Last.{LastNumbers, with_step}
use Rattle.trac_tracer.specs.ShownCalls.{CallKept, IsKept, IsValueAfter, StepEnd, AddsCall, seen_text, step_lines}
use Rattle.trac_tracer.specs.ShownRuns.{AreLinesOf, StepDone, ShownSoFar, ShowsSteps, ShowsRun, end_of, none_shown}
use Rattle.trac_tracer.proofs.Framing.{framed-answers, need-later, with_peak}

-- what a step needs is the same whatever was printed before it
need-any : (memory : Memory) (input : Input) (out held : Text) → held ≡ [] → need (state_with memory input out) ≡ need (state_with memory input held)
need-any memory input out held empty =
    ap (λ o. need (state_with memory input o)) (sym (append-nil out)) ∙ need-later out (state_with memory input [])
    ∙ ap (λ o. need (state_with memory input o)) (sym empty)

-- what is seen of a machine is the same whatever its peak
seen_call-any : (asked : Bool) (peak : ℕ) (m : MachineState) → seen_call asked (with_peak peak m) ≡ seen_call asked m
seen_call-any true peak m = refl
seen_call-any false peak m = refl

seen-any : (peak : ℕ) (m : MachineState) (asked : Bool) (before : Before) → IsSeen m asked before → IsSeen (with_peak peak m) asked before
seen-any peak m asked before seen =
    (seen.0, seen.1, seen.2, seen.3, seen.4, seen.5, seen.6, seen.7 ∙ sym (seen_call-any (looks_at_call m asked) peak m))

-- and so is what is told of it
module _ (peak : ℕ) (end : StepEnd) where
  abbrev m : MachineState
  m = end.machine

  abbrev other : StepEnd
  other = record end { machine = with_peak peak m }

  told-any : (done : Bool) (width needed : ℕ) (before : Before) (old new : List ℕ) → AddsPrinted done width before needed end.printed m old new → AddsPrinted done width before needed end.printed (with_peak peak m) old new
  told-any true width needed before old new told = told
  told-any false width needed before old new told = told

  sees-any : (call : Option CallMark) (n : ℕ) (value : List Cell) → SeesValue m call n value → SeesValue (with_peak peak m) call n value
  sees-any None n value sees = sees
  sees-any (Some mark) n value sees = sees

  value-any : (answer : Option Fate) (before : Before) (value : List Cell) → IsValueAfter answer before m value → IsValueAfter answer before (with_peak peak m) value
  value-any None before value is = sees-any before.call before.active value is
  value-any (Some fate) before value is = is

  seen_text-any : (call : Option CallMark) (views : Views) (kept : CallKept) (value : List Cell) → seen_text views call kept value end ≡ seen_text views call kept value other
  seen_text-any None views kept value = refl
  seen_text-any (Some mark) views kept value = refl

  step_lines-any : (done : Bool) (views : Views) (before : Before) (kept : CallKept) (value : List Cell) → step_lines done views before kept value end ≡ step_lines done views before kept value other
  step_lines-any true views before kept value =
      ap (λ t. (if has_strings views then dropped_text before.drops else []) ++ t) (seen_text-any before.call views kept value)
  step_lines-any false views before kept value = refl

  calls-any : (views : Views) (before : Before) (answer : Option Fate) (kept : CallKept) (old new : List ℕ) → AddsCall views before answer kept end old new → AddsCall views before answer kept other old new
  calls-any views before answer kept old new tells =
      (tells.0, (value-any answer before tells.0 tells.1.0, tells.1.1 ∙ ap (λ t. old ++ t) (step_lines-any (nat_lt before.done m.steps) views before kept tells.0)))

  ends-any : (fault : Bool) (width : ℕ) (old new : List ℕ) → AddsWhere fault width m old new → AddsWhere fault width (with_peak peak m) old new
  ends-any true width old new told = told
  ends-any false width old new told = told

-- the lines of a step don't depend on the peaks before it and behind it
told-so : (views : Views) (top least : ℕ) (done : StepDone) (lines : List ℕ) → AreLinesOf views done lines → AreLinesOf views (record done { old = with_peak top done.old; new = with_peak least done.new }) lines
told-so views top least done lines told =
    record {
      before = told.before;
      kept = told.kept;
      seen = seen-any top done.old _ told.before told.seen;
      depth_is = told.depth_is;
      hidden = told.hidden;
      steps = λ is_shown steps. told-any least (end_of done) (nat_lt told.before.done done.new.steps) views.width done.needed told.before [] lines (told.steps is_shown steps);
      keeps = told.keeps;
      calls = λ is_shown others. calls-any least (end_of done) views told.before done.answer told.kept [] lines (told.calls is_shown others);
    }

-- what was told of a step, by views that were the same when it was looked at and when its lines were added, and which
-- were added to none
pub record IsTold (views : Views) (done : StepDone) (lines : List ℕ) : Type 0 where
  pub looked : Views
  pub looked_is : looked ≡ views
  pub told : Views
  pub told_is : told ≡ views
  pub old : List ℕ
  pub none : old ≡ []
  pub before : Before
  pub kept : CallKept
  pub seen : IsSeen done.old (is_shown_step looked done.old.steps && not (has_steps looked)) before
  pub depth_is : done.depth ≡ depth_in before done.new done.depth_before
  pub hidden : is_shown_step told before.done ≡ false → lines ≡ old
  pub steps : is_shown_step told before.done ≡ true → has_steps told ≡ true → AddsStep told.width before done.needed done.printed done.new old lines
  pub keeps : is_shown_step looked done.old.steps ≡ true → has_steps looked ≡ false → IfSome before.call (λ mark. IsKept done.old.memory looked.width mark kept)
  pub calls : is_shown_step told before.done ≡ true → has_steps told ≡ false → AddsCall told before done.answer kept (end_of done) old lines

-- are its lines
pub are-lines : (views : Views) (done : StepDone) (lines : List ℕ) → IsTold views done lines → AreLinesOf views done lines
are-lines views done lines h =
    let told_so = ap (λ v. is_shown_step v h.before.done) h.told_is ∙ ap (is_shown_step views) h.seen.0 in
    record {
      before = h.before;
      kept = h.kept;
      seen = subst (λ views. IsSeen done.old (is_shown_step views done.old.steps && not (has_steps views)) h.before) h.looked_is h.seen;
      depth_is = h.depth_is;
      hidden = λ hidden. h.hidden (told_so ∙ hidden) ∙ h.none;
      steps = λ is_shown steps.
          transport (λ i. AddsStep (h.told_is i).width h.before done.needed done.printed done.new (h.none i) lines) (h.steps (told_so ∙ is_shown) (ap has_steps h.told_is ∙ steps));
      keeps = λ is_shown others.
          subst (λ v. IfSome h.before.call (λ mark. IsKept done.old.memory v.width mark h.kept)) h.looked_is
          (h.keeps (ap (λ v. is_shown_step v done.old.steps) h.looked_is ∙ is_shown) (ap has_steps h.looked_is ∙ others));
      calls = λ is_shown others.
          transport (λ i. AddsCall (h.told_is i) h.before done.answer h.kept (end_of done) (h.none i) lines) (h.calls (told_so ∙ is_shown) (ap has_steps h.told_is ∙ others));
    }

-- where a trace stands: its machine, whose peak is counted from 0 at each step, the greatest need of a step so far, how
-- many calls are open, the source, and the last steps of which something was shown
pub record TraceAt : Type 0 where
  pub machine : MachineState
  pub top : ℕ
  pub depth : ℕ
  pub source : Stream
  pub last : LastNumbers

abbrev moment_at : TraceAt → (out : Text) → Moment
moment_at at out = moment (with_peak at.top at.machine) at.source out

abbrev so_far : TraceAt → (out : Text) → List ℕ → ShownSoFar
so_far at out text = record { at = moment_at at out; depth = at.depth; last = at.last; text = text }

-- a step led from `old` to `new`, with these lines: the machine counted from no peak, and gave its peak away
pub record TracesStep (views : Views) (old : TraceAt) (answer : Option Fate) (new : TraceAt) (lines : List ℕ) : Type 0 where
  pub held : Text
  pub printed : Text
  pub needed : ℕ
  pub next : MachineState
  pub no_peak : old.machine.peak ≡ 0
  pub empty : held ≡ []
  pub answers : Answers (moment old.machine old.source held) answer (moment next new.source printed)
  pub needed_is : needed ≡ next.peak
  pub machine_is : new.machine ≡ with_peak 0 next
  pub top_is : new.top ≡ max old.top needed
  pub last_is : new.last ≡ with_step new.machine.steps lines old.last
  pub told : IsTold views (record { old = old.machine; depth_before = old.depth; answer = answer; needed = needed; printed = printed; new = new.machine; depth = new.depth }) lines

-- a trace of the run in `room` cells and with at most `allowance` steps, over a source with these bytes
module _ (views : Views) (room allowance : ℕ) (bytes : Stream) where
  abbrev start : MachineState
  start = fresh_machine room allowance

  abbrev head : List ℕ
  head = folded_text views.columns 0 (head_text views.calls views.forms)

  -- the definition's run led to where the trace stands, and was shown: `new` is `old` with the head and with the text of
  -- all steps so far
  pub record IsShown (old new : Option (List ℕ)) (at : TraceAt) : Type 0 where
    pub count : ℕ
    pub out : Text
    pub text : List ℕ
    pub goes : ShowsSteps views count (none_shown views (moment start bytes [])) (so_far at out text)
    pub course : OnCourse start bytes.bytes [] (moment_at at out)
    pub wrote : Appends old new (head ++ text)

  -- before the first step only the head was written
  pub shown-none : (old new : Option (List ℕ)) → Appends old new head → IsShown old new (record { machine = start; top = 0; depth = 0; source = bytes; last = record { numbers = []; most = views.last } })
  shown-none old new wrote =
      record { count = 0; out = []; text = []; goes = refl; course = course-none start bytes []; wrote = subst (Appends old new) (sym (append-nil head)) wrote }

  -- one step more
  module _ (old new newer : Option (List ℕ)) (from to : TraceAt) (lines : List ℕ) (shown : IsShown old new from) where
    -- the text of a step's lines is written behind that of the earlier steps
    wrote-more : (text : List ℕ) → Appends new newer text → Appends old newer (head ++ (shown.text ++ text))
    wrote-more text wrote =
        subst (Appends old newer) (append_assoc head shown.text text) (Appends-trans old new newer (head ++ shown.text) text shown.wrote wrote)

    -- what it answers over all that was printed
    answers-all : (answer : Option Fate) (h : TracesStep views from answer to lines) → Answers (moment_at from shown.out) answer (moment_at to (shown.out ++ h.printed))
    answers-all answer h =
        let top = ap (max from.top) (sym h.needed_is) ∙ sym h.top_is in
        subst (Answers (moment_at from shown.out) answer) (λ i. moment (with_peak (top i) (sym h.machine_is i)) to.source (shown.out ++ h.printed))
        (framed-answers shown.out from.top (moment from.machine from.source h.held) (moment h.next to.source h.printed) answer h.no_peak h.empty h.answers)

    needs : (answer : Option Fate) (h : TracesStep views from answer to lines) → h.next.peak ≡ max from.machine.peak (need (state_of (moment from.machine from.source h.held))) → h.needed ≡ need (state_of (moment_at from shown.out))
    needs answer h peak =
        let same = need-any from.machine.memory (state_of (moment from.machine from.source h.held)).input shown.out h.held h.empty in
        omega (arith, same, h.no_peak, h.needed_is, peak)

    tells-all : (answer : Option Fate) (h : TracesStep views from answer to lines) → AreLinesOf views (record { old = with_peak from.top from.machine; depth_before = from.depth; answer = answer; needed = h.needed; printed = h.printed; new = with_peak to.top to.machine; depth = to.depth }) lines
    tells-all answer h = told-so views from.top to.top _ lines (are-lines views _ lines h.told)

    -- the run goes on
    pub shown-more : TracesStep views from None to lines → from.machine.room ≡ room → (taken : Text) → from.source.bytes ≡ taken ++ to.source.bytes → Appends new newer (folded_text views.columns 0 lines) → IsShown old newer to
    shown-more h room_is taken took wrote =
        let goes_on = answers-all None h in
        let text = shown.text ++ folded_text views.columns 0 lines in
        record {
          count = suc shown.count;
          out = shown.out ++ h.printed;
          text = text;
          goes = (
            so_far from shown.out shown.text,
            (
              shown.goes,
              record {
                printed = h.printed;
                lines = lines;
                goes = goes_on;
                prints = refl;
                tells = subst (λ n. AreLinesOf views (record { old = with_peak from.top from.machine; depth_before = from.depth; answer = None; needed = n; printed = h.printed; new = with_peak to.top to.machine; depth = to.depth }) lines) (needs None h h.answers.counts.peak) (tells-all None h);
                new_is = λ i. record { at = moment_at to (shown.out ++ h.printed); depth = to.depth; last = h.last_is i; text = text };
              },
            ),
          );
          course = course-more start bytes.bytes [] taken (moment_at from shown.out) (moment_at to (shown.out ++ h.printed)) room_is took shown.course goes_on;
          wrote = wrote-more (folded_text views.columns 0 lines) wrote;
        }

    last-needs : (fate : Fate) (h : TracesStep views from (Some fate) to lines) → counts_as_step (Some fate) ≡ true → h.needed ≡ need (state_of (moment_at from shown.out))
    last-needs Halted h counts = needs (Some Halted) h h.answers.counts.peak
    last-needs InputEnded h counts = needs (Some InputEnded) h h.answers.counts.peak
    last-needs _ h counts = absurd cc

    -- the run is over
    pub shown-last : (fate : Fate) (h : TracesStep views from (Some fate) to lines) → from.machine.room ≡ room → from.machine.allowance ≡ allowance → (all : List ℕ) (first : ℕ) → AddsEnd views fate to.top to.machine lines all → first ≡ slice_index_or to.last.numbers 0 1 → Appends new newer (folded_text views.columns 0 all) → (text : List ℕ) × (Appends old newer text × ShowsRun views room allowance bytes to.source fate first text)
    shown-last fate h room_is allowance_is all first tells first_is wrote =
        let here = so_far from shown.out shown.text in
        let at = moment_at to (shown.out ++ h.printed) in
        let text = shown.text ++ folded_text views.columns 0 all in
        let answers = answers-all (Some fate) h in (
          head ++ text,
          (
            wrote-more (folded_text views.columns 0 all) wrote,
            record {
              count = shown.count;
              before = here;
              after = so_far to (shown.out ++ h.printed) text;
              goes = shown.goes;
              ends = record {
                printed = h.printed;
                needed = h.needed;
                lines = lines;
                all = all;
                answers = answers;
                prints = refl;
                needs = last-needs fate h;
                tells = tells-all (Some fate) h;
                ends = ends-any to.top (record { depth = to.depth; printed = h.printed; machine = to.machine }) (is_fault fate) views.width
                    (lines ++ end_text fate to.machine.steps to.top ++ forms_text views to.machine) all tells;
                new_is = λ i. record { at = at; depth = to.depth; last = h.last_is i; text = text };
              };
              left = refl;
              reports = reports-made start refl fate (course_to start bytes.bytes [] at) (report_of fate at.machine) refl
                  (reported start bytes.bytes [] here.at at room_is allowance_is shown.course fate answers);
              first_is = first_is;
              text_is = refl;
            },
          ),
        )
