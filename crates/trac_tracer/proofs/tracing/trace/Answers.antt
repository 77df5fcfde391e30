use Rattle.std.proofs.Common.{◌≡◌, ◌∙◌, ap, arith, length, max, refl, subst, sym, Some, None}
use Rattle.std.proofs.lemmas.List.{length-replicate}
use Rattle.std.specs.Io.KnownBytes.{Appends}
use Rattle.trac_core.specs.Machine.{Answers, MachineState, fresh_machine, moment}
use Rattle.trac_events.specs.Calls.{depth_in}
use Rattle.trac_views.specs.Faults.{AddsEnd}
use Rattle.trac_views.specs.Lines.{folded_text}
use Rattle.trac_tracer.specs.Last.{with_step}
use Rattle.trac_tracer.specs.ShownCalls.{AddsCall, kept_in}
use Rattle.trac_events.proofs.Failures.{last-failures}
use Rattle.trac_tracer.proofs.StepByStep.{IsShown, TraceAt, TracesStep, shown-none, shown-more, shown-last}
use Rattle.trac_tracer.proofs.tracing.trace.Goals as goal

pub loop-last-init : goal.loop-last-init
loop-last-init g c =
    let asked = c.args.options.now in
    let shown = c.in_ok-shown.ensures in
    let cells : length c.deref_mut.result.now ≡ asked.cells = ap length c.deref_mut.ensures.value ∙ ap length c.in_ok-block.ensures ∙ length-replicate asked.cells _ in
    let machine_is : c.over-machine.result ≡ fresh_machine asked.cells asked.steps = c.over-machine.ensures ∙ ap (λ n. fresh_machine n asked.steps) cells in
    record {
      not_over = ap (λ (m : MachineState). m.fate) machine_is;
      source_failures = refl;
      sink_failures = c.new-printed.ensures.none;
      empty = c.new-printed.ensures.empty;
      no_peak = ap (λ (m : MachineState). m.peak) machine_is;
      room = ap (λ (m : MachineState). m.room) machine_is;
      allowance = ap (λ (m : MachineState). m.allowance) machine_is;
      views = shown.0;
      told = λ told. told;
      shows = λ told.
          subst (IsShown asked.views asked.cells asked.steps (g.I.Source.stream c.args.source.now) _ _) (λ i. record { machine = sym machine_is i; top = sym shown.1 i; depth = sym shown.2 i; source = g.I.Source.stream c.args.source.now; last = sym c.new-last.ensures i })
          (shown-none asked.views asked.cells asked.steps (g.I.Source.stream c.args.source.now) _ _ (subst (λ t. Appends (g.W.Write.contents c.args.output.now) (g.W.Write.contents c.write_folded.new.output) (folded_text asked.views.columns 0 t)) (c.lines.ensures ∙ shown.3) c.in_ok-write_folded.ensures));
    }

pub returns-in-Some : goal.returns-in-Some
returns-in-Some g c =
    let i = c.loop-last.invariant in
    let h = c.in-Some.ensures in
    let views = c.args.options.now.views in
    let asked = c.args.options.now in
    let m = c.loop-last.machine in
    let looked = c.in_ok-before.ensures.views ∙ i.views in
    let failures = last-failures m.fate c.in-Some.fate i.not_over in
    record {
      input_failed = omega (arith, h.input_failed, failures, i.source_failures);
      shows = λ told.
          let after = c.take_peak-need.new.self in
          let printed = c.as_bytes.result.now in
          let lines = c.add_lines.new.self.lines.items in
          let from : TraceAt = record { machine = m; top = c.loop-last.shown.peak; depth = c.loop-last.shown.depth; source = g.I.Source.stream c.loop-last.source; last = c.loop-last.last } in
          let to : TraceAt = record { machine = after; top = c.add_lines.new.self.peak; depth = c.add_lines.new.self.depth; source = g.I.Source.stream c.step-fate.new.source; last = c.add.new.self } in
          let step : TracesStep views from (Some c.in-Some.fate) to lines = record {
            held = c.loop-last.printed.bytes.items;
            printed = printed;
            needed = c.take_peak-need.result;
            next = c.step-fate.new.self;
            no_peak = i.no_peak;
            empty = i.empty;
            answers = subst (λ out. Answers (moment m from.source c.loop-last.printed.bytes.items) (Some c.in-Some.fate) (moment c.step-fate.new.self to.source out)) (sym c.as_bytes.ensures) (h.answers i.not_over (i.told told) tt);
            needed_is = c.take_peak-need.ensures.peak;
            machine_is = c.take_peak-need.ensures.after;
            top_is = c.in_ok-add_lines.ensures.peak ∙ ap (λ p. max p c.take_peak-need.result) c.in_ok-before.ensures.peak;
            last_is = c.in_ok-add.ensures.ok ∙ (λ i. with_step (c.steps.ensures i) (c.lines-in-loop-last.ensures i) c.loop-last.last);
            told = record {
              looked = c.loop-last.shown.views;
              looked_is = i.views;
              told = c.look.new.self.views;
              told_is = looked;
              old = c.look.new.self.lines.items;
              none = c.in_ok-before.ensures.cleared;
              before = c.in_ok-before.before;
              kept = kept_in c.look.new.self;
              seen = c.in_ok-before.ensures.seen;
              depth_is = c.in_ok-add_lines.ensures.depth ∙ ap (depth_in c.in_ok-before.before after) c.in_ok-before.ensures.depth;
              hidden = c.in_ok-add_lines.ensures.hidden;
              steps = c.in_ok-add_lines.ensures.steps;
              keeps = c.in_ok-before.ensures.kept;
              calls = λ told others. subst (λ a. AddsCall c.look.new.self.views c.in_ok-before.before a (kept_in c.look.new.self) (record { depth = to.depth; printed = printed; machine = after }) c.look.new.self.lines.items lines) c.in-Some.is (c.in_ok-add_lines.ensures.calls told others);
            };
          } in
          let ends = subst (λ v. AddsEnd v c.in-Some.fate to.top after lines c.add_end.new.self.lines.items) (c.in_ok-add_lines.ensures.views ∙ looked) c.in_ok-add_end.ensures in
          shown-last views asked.cells asked.steps (g.I.Source.stream c.args.source.now) _ _ _ from to lines (i.shows told) c.in-Some.fate step i.room i.allowance c.add_end.new.self.lines.items c.first-first.result ends c.first-first.ensures
          (subst (λ t. Appends (g.W.Write.contents c.loop-last.output) (g.W.Write.contents c.write_folded-in-Some.new.output) (folded_text views.columns 0 t)) c.lines-in-Some.ensures c.in_ok-write_folded-2.ensures);
    }

pub loop-last-preserved : goal.loop-last-preserved
loop-last-preserved g c =
    let i = c.loop-last.invariant in
    let h = c.in_default.ensures in
    let views = c.args.options.now.views in
    let asked = c.args.options.now in
    let m = c.loop-last.machine in
    let after = c.take_peak-need.new.self in
    let after_is = c.take_peak-need.ensures.after in
    let looked = c.in_ok-before.ensures.views ∙ i.views in
    let source_failed = rw i.not_over at h.input_failed in
    let sink_failed = rw i.not_over at h.output_failed in
    record {
      not_over = ap (λ (m : MachineState). m.fate) after_is ∙ h.fate;
      source_failures = omega (arith, i.source_failures, source_failed);
      sink_failures = omega (arith, i.sink_failures, sink_failed, c.clear.ensures.counts);
      empty = c.clear.ensures.empty;
      no_peak = ap (λ (m : MachineState). m.peak) after_is;
      room = ap (λ (m : MachineState). m.room) after_is ∙ h.room ∙ i.room;
      allowance = ap (λ (m : MachineState). m.allowance) after_is ∙ h.allowance ∙ i.allowance;
      views = c.in_ok-add_lines.ensures.views ∙ looked;
      told = λ told. h.told_source (i.told told);
      shows = λ told.
          let printed = c.as_bytes.result.now in
          let lines = c.add_lines.new.self.lines.items in
          let from : TraceAt = record { machine = m; top = c.loop-last.shown.peak; depth = c.loop-last.shown.depth; source = g.I.Source.stream c.loop-last.source; last = c.loop-last.last } in
          let to : TraceAt = record { machine = after; top = c.add_lines.new.self.peak; depth = c.add_lines.new.self.depth; source = g.I.Source.stream c.step-fate.new.source; last = c.add.new.self } in
          let step : TracesStep views from None to lines = record {
            held = c.loop-last.printed.bytes.items;
            printed = printed;
            needed = c.take_peak-need.result;
            next = c.step-fate.new.self;
            no_peak = i.no_peak;
            empty = i.empty;
            answers = subst (λ out. Answers (moment m from.source c.loop-last.printed.bytes.items) None (moment c.step-fate.new.self to.source out)) (sym c.as_bytes.ensures) (h.answers i.not_over (i.told told) tt);
            needed_is = c.take_peak-need.ensures.peak;
            machine_is = c.take_peak-need.ensures.after;
            top_is = c.in_ok-add_lines.ensures.peak ∙ ap (λ p. max p c.take_peak-need.result) c.in_ok-before.ensures.peak;
            last_is = c.in_ok-add.ensures.ok ∙ (λ i. with_step (c.steps.ensures i) (c.lines-in-loop-last.ensures i) c.loop-last.last);
            told = record {
              looked = c.loop-last.shown.views;
              looked_is = i.views;
              told = c.look.new.self.views;
              told_is = looked;
              old = c.look.new.self.lines.items;
              none = c.in_ok-before.ensures.cleared;
              before = c.in_ok-before.before;
              kept = kept_in c.look.new.self;
              seen = c.in_ok-before.ensures.seen;
              depth_is = c.in_ok-add_lines.ensures.depth ∙ ap (depth_in c.in_ok-before.before after) c.in_ok-before.ensures.depth;
              hidden = c.in_ok-add_lines.ensures.hidden;
              steps = c.in_ok-add_lines.ensures.steps;
              keeps = c.in_ok-before.ensures.kept;
              calls = λ told others. subst (λ a. AddsCall c.look.new.self.views c.in_ok-before.before a (kept_in c.look.new.self) (record { depth = to.depth; printed = printed; machine = after }) c.look.new.self.lines.items lines) c.in_default.is (c.in_ok-add_lines.ensures.calls told others);
            };
          } in
          let took = h.takes (i.told told) in
          shown-more views asked.cells asked.steps (g.I.Source.stream c.args.source.now) _ _ _ from to lines (i.shows told) step i.room took.0 took.1.consumed
          (subst (λ t. Appends (g.W.Write.contents c.loop-last.output) (g.W.Write.contents c.write_folded-in-loop-last.new.output) (folded_text views.columns 0 t)) c.lines-in-loop-last-2.ensures c.in_ok-write_folded-3.ensures);
    }
