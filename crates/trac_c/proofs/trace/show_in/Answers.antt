use Rattle.trac_c.proofs.Imports.{MachineState, ap, max, subst, sym, take, ◌∙◌, ◌≡◌}
use mathlib.Core.Logic.{inl, inr}
use mathlib.Core.Path.{transport}
use Rattle.trac_events.specs.Calls.{depth_in}
use Rattle.trac_tracer.proofs.StepByStep.{are-lines}
use Rattle.trac_tracer.specs.declared.shown.Progress.{Progress}
use Rattle.trac_tracer.specs.ShownCalls.{kept_in}
use Rattle.trac_tracer.specs.ShownRuns.{AreLinesOf, StepDone}
use Rattle.trac_c.specs.Traced.{WithEnd, last_shown, uncounted, views_of}
use Rattle.trac_c.proofs.StepLines.{tells-step, trace-behind, when-ok}
use Rattle.trac_c.specs.declared.trace.TracTrace.{TracTrace}
use Rattle.trac_c.proofs.trace.show_in.Goals as goal

pub returns-in-Ok-lay_lines : goal.returns-in-Ok-lay_lines
returns-in-Ok-lay_lines g c =
    let trace = c.args.trace.now in
    let old = c.args.machine.now in
    let next = c.one_step-turn.new.machine in
    let m = c.take_peak-need.new.self in
    let m_is = c.take_peak-need.ensures.after in
    let turn = c.one_step-turn.result in
    let buffer = c.one_step-turn.new.output in
    let first = c.resumed-shown.result in
    let looked = c.look.new.self in
    let told = c.add_lines-added.new.self in
    let tells = c.add_lines-added.ensures in
    let seen = c.in-Ok.ensures in
    let laid = c.in-Ok-lay_lines.ensures in
    let b = c.behind-after.result in
    let after : TracTrace = record b { lines = c.in-Ok-lay_lines.lines.bytes; shown = c.in-Ok-lay_lines.lines.step } in
    let views_is : first.views ≡ views_of trace = c.resumed-shown.ensures.0 ∙ c.views.ensures in
    let look_is = seen.views ∙ views_is in
    let around_is : first.depth ≡ trace.depth = c.resumed-shown.ensures.1 ∙ ap (λ (p : Progress). p.depth) c.progress.ensures in
    let depth_so : told.depth ≡ b.depth = sym (ap (λ (t : TracTrace). t.depth) c.behind-after.ensures ∙ c.progress-2.ensures.0) in
    let found : told.peak ≡ b.peak = sym (ap (λ (t : TracTrace). t.peak) c.behind-after.ensures ∙ c.progress-2.ensures.1) in
    let before_is : looked.peak ≡ trace.peak = seen.peak ∙ c.resumed-shown.ensures.2 ∙ ap (λ (p : Progress). p.peak) c.progress.ensures in
    let peak_is : b.peak ≡ max trace.peak next.peak = sym found ∙ tells.peak ∙ ap (λ p. max p c.take_peak-need.result) before_is ∙ ap (max trace.peak) c.take_peak-need.ensures.peak in
    let lines = told.lines.items in
    let are =
    are-lines (views_of trace) (record { old = old; depth_before = first.depth; answer = c.fate_of-fate.result; needed = c.take_peak-need.result; printed = take turn.written buffer; new = m; depth = told.depth }) lines
    (record {
      looked = first.views;
      looked_is = views_is;
      told = looked.views;
      told_is = look_is;
      old = looked.lines.items;
      none = seen.cleared;
      before = c.in-Ok.before;
      kept = kept_in looked;
      seen = seen.seen;
      depth_is = tells.depth ∙ ap (depth_in c.in-Ok.before m) seen.depth;
      hidden = tells.hidden;
      steps = λ told shown. when-ok c.add_lines-added.result _ laid.worked (tells.steps told shown);
      keeps = seen.kept;
      calls = λ told shown. when-ok c.add_lines-added.result _ laid.worked (tells.calls told shown);
    }) in
    inr (
      turn,
      (
        next,
        (
          c.one_step-turn.ensures.stepped,
          (
            m_is,
            tells-step trace after turn _ _ _ _ (sym c.is_waiting.ensures ∙ c.if-is_waiting.false) (inl (
              c.reported-in-Ok-lay_lines.ensures,
              record {
                own = lines;
                all = laid.ok.0;
                tells = subst (λ (done : StepDone). AreLinesOf (views_of trace) done lines)
                    (λ i. record { old = old; depth_before = around_is i; answer = c.fate_of-fate.ensures i; needed = c.take_peak-need.ensures.peak i; printed = take turn.written buffer; new = m_is i; depth = depth_so i }) are;
                ends = transport (λ i. WithEnd ((tells.views ∙ look_is) i) (c.fate_of-fate.ensures i) (found i) (m_is i) lines laid.ok.0) laid.ok.1.0;
                laid = laid.ok.1.1;
                trace_is = λ i. record (trace-behind trace b c.progress-2.result.depth c.progress-2.result.peak (max trace.peak next.peak) c.behind-after.ensures peak_is i) {
                  lines = laid.ok.1.2 i;
                  shown = (laid.ok.1.3 ∙ ap (λ (n : MachineState). last_shown trace lines n.steps) m_is) i;
                };
              },
            )),
          ),
        ),
      ),
    )

pub returns : goal.returns
returns g c =
    let trace = c.args.trace.now in
    let old = c.args.machine.now in
    let next = c.one_step-turn.new.machine in
    let m = c.take_peak-need.new.self in
    let m_is = c.take_peak-need.ensures.after in
    let turn = c.one_step-turn.result in
    let first = c.resumed-shown.result in
    let looked = c.look.new.self in
    let told = c.add_lines-added.new.self in
    let tells = c.add_lines-added.ensures in
    let seen = c.in-Ok.ensures in
    let b = c.behind-after.result in
    let around_is : first.depth ≡ trace.depth = c.resumed-shown.ensures.1 ∙ ap (λ (p : Progress). p.depth) c.progress.ensures in
    let depth_so : b.depth ≡ told.depth = ap (λ (t : TracTrace). t.depth) c.behind-after.ensures ∙ c.progress-2.ensures.0 in
    let depth_is : b.depth ≡ depth_in c.in-Ok.before (uncounted next) trace.depth =
    depth_so ∙ tells.depth ∙ ap (depth_in c.in-Ok.before m) (seen.depth ∙ around_is) ∙ ap (λ (n : MachineState). depth_in c.in-Ok.before n trace.depth) m_is in
    let before_is : looked.peak ≡ trace.peak = seen.peak ∙ c.resumed-shown.ensures.2 ∙ ap (λ (p : Progress). p.peak) c.progress.ensures in
    let peak_is : b.peak ≡ max trace.peak next.peak = ap (λ (t : TracTrace). t.peak) c.behind-after.ensures ∙ c.progress-2.ensures.1 ∙ tells.peak ∙ ap (λ p. max p c.take_peak-need.result) before_is ∙ ap (max trace.peak) c.take_peak-need.ensures.peak in
    inr (
      turn,
      (
        next,
        (
          c.one_step-turn.ensures.stepped,
          (
            m_is,
            tells-step trace b turn _ _ _ _ (sym c.is_waiting.ensures ∙ c.if-is_waiting.false) (inr (
              c.reported-in-Err.ensures,
              record {
                asked = _;
                before = c.in-Ok.before;
                seen = seen.seen;
                depth_is = depth_is;
                kept = c.in-Err.ensures.err;
                trace_is = trace-behind trace b c.progress-2.result.depth c.progress-2.result.peak (max trace.peak next.peak) c.behind-after.ensures peak_is;
              },
            )),
          ),
        ),
      ),
    )
