use Rattle.std.proofs.Common.{◌≡◌, ◌∙◌, ◌++◌, true, false, List, [], ℕ, Option, Some, None, ap, sym, subst, append_assoc, append-nil, arith}
use Rattle.std.specs.Prelude.{if◌then◌else◌, nat_lt}
use Rattle.std.proofs.lemmas.Bool.{le-ltb, lt-ltb}
use Rattle.trac_language.specs.declared.fate.Fate.{Fate}
use Rattle.trac_space.specs.declared.cell.Cell.{Cell}
use Rattle.trac_core.specs.Machine.{MachineState}
use Rattle.trac_events.specs.Calls.{SeesValue}
use Rattle.trac_events.specs.declared.before.Before.{Before}
use Rattle.trac_views.specs.Lines.{dropped_text, output_text}
use Rattle.trac_views.specs.CallLines.{has_steps, has_strings}
use Rattle.trac_views.specs.declared.views.Views.{Views}
use Rattle.trac_views.proofs.Texts.{on_ok}
use Rattle.trac_tracer.specs.declared.shown.Shown.{Shown}
use Rattle.trac_tracer.specs.ShownCalls.{CallKept, IsValueAfter, StepEnd, kept_in, seen_text, step_lines}
use Rattle.trac_tracer.proofs.shown.Shown.add_lines.Goals as goal
use Rattle.trac_tracer.proofs.shown.Shown.add_lines.Goals.{in-None, in-Some, then-steps-before+in_ok-add_step+in_ok-add_call, else-steps-before}

-- the value, by the fate
value-none : (before : Before) (m : MachineState) (fate : Option Fate) (value found : List Cell) → fate ≡ None → value ≡ found → SeesValue m before.call before.active found → IsValueAfter fate before m value
value-none before m fate value found none same sees =
    subst (λ f. IsValueAfter f before m value) (sym none) (subst (SeesValue m before.call before.active) (sym same) sees)

value-some : (before : Before) (m : MachineState) (fate : Option Fate) (over : Fate) (value : List Cell) → fate ≡ Some over → value ≡ [] → IsValueAfter fate before m value
value-some before m fate over value some null = subst (λ f. IsValueAfter f before m value) (sym some) null

-- where the steps aren't shown, what a step prints isn't
no-print : (views after : Views) (printed : List ℕ) → after ≡ views → has_steps views ≡ false → (if has_steps after then output_text printed else []) ≡ []
no-print views after printed same none = ap (λ b. if b then output_text printed else []) (ap has_steps same ∙ none)

module _ (views : Views) (before : Before) (kept : CallKept) (value : List Cell) (end : StepEnd) (old : List ℕ) where
  -- the line of what was dropped, and then that of the call
  done-lines : (first second new : List ℕ) → nat_lt before.done end.machine.steps ≡ true → first ≡ old ++ (if has_strings views then dropped_text before.drops else []) → second ≡ first ++ seen_text views before.call kept value end → new ≡ second ++ [] → new ≡ old ++ step_lines (nat_lt before.done end.machine.steps) views before kept value end
  done-lines first second new done one two three =
      let seen = seen_text views before.call kept value end in
      three ∙ append-nil second ∙ two ∙ ap (λ t. t ++ seen) one ∙ append_assoc old (if has_strings views then dropped_text before.drops else []) seen
      ∙ ap (λ b. old ++ step_lines b views before kept value end) (sym done)

  -- a step that was not done has no lines
  undone-lines : (second new : List ℕ) → nat_lt before.done end.machine.steps ≡ false → second ≡ old → new ≡ second ++ [] → new ≡ old ++ step_lines (nat_lt before.done end.machine.steps) views before kept value end
  undone-lines second new done same last = last ∙ ap (λ t. t ++ []) same ∙ ap (λ b. old ++ step_lines b views before kept value end) (sym done)

pub returns-clause-calls : goal.returns-clause-calls
returns-clause-calls g c = λ told not_steps.
    let self = c.args.self.now in
    let before = c.args.before.now in
    let m = c.args.machine.now in
    let value = c.match-fate.value.now in
    let s = c.if-steps-before.self in
    let shown = c.show.new.self in
    let end : StepEnd = record { depth = shown.depth; printed = c.args.printed.now; machine = m } in
    let is_value : IsValueAfter c.args.fate before m value =
    elim c.match-fate.branch [
      | in-None w ↦ value-none before m c.args.fate value w.value-value.result.now w.in-None.is (ap (λ v. v.now) w.value-is) w.value-value.ensures
      | in-Some w ↦ value-some before m c.args.fate _ value w.in-Some.is (ap (λ v. v.now) w.value-is)
    ] in
    let views_is : s.views ≡ self.views =
    elim c.if-steps-before.branch [
      | then-steps-before+in_ok-add_step+in_ok-add_call w ↦ ap (λ (s : Shown g.row.A.Denot). s.views) w.self-is ∙ w.add_call.ensures.views ∙ w.add_step.ensures.views
      | else-steps-before w ↦ ap (λ (s : Shown g.row.A.Denot). s.views) w.self-is
    ] in
    on_ok c.show.result _ _
    (λ last. (
      value,
      (
        is_value,
        let new_is = last ∙ ap (λ t. s.lines.items ++ t) (no-print self.views s.views c.args.printed.now views_is not_steps) in
            elim c.if-steps-before.branch [
              | then-steps-before+in_ok-add_step+in_ok-add_call w ↦
                  let step = w.add_step.new.self in
                  let on = w.add_step.ensures in
                  let depth = sym (c.show.ensures.depth ∙ ap (λ (s : Shown g.row.A.Denot). s.depth) w.self-is ∙ w.add_call.ensures.depth) in
                  done-lines self.views before (kept_in self) value end self.lines.items step.lines.items w.add_call.new.self.lines.items shown.lines.items
                  (lt-ltb before.done m.steps (omega (arith, w.if-steps-before.true, c.steps.ensures)))
                  (w.in_ok-add_step.ensures.dropped not_steps)
                  (w.in_ok-add_call.ensures.called (ap has_steps on.views ∙ not_steps)
                  ∙ (λ i. step.lines.items ++ seen_text (on.views i) before.call (record { arguments = (on.arguments i).items; named = on.named i; deleted = (on.deleted i).items }) value (record end { depth = depth i })))
                  (new_is ∙ ap (λ (s : Shown g.row.A.Denot). s.lines.items ++ []) w.self-is)
              | else-steps-before w ↦
                  undone-lines self.views before (kept_in self) value end self.lines.items s.lines.items shown.lines.items
                  (le-ltb before.done m.steps (omega (arith, w.if-steps-before.false, c.steps.ensures))) (ap (λ (s : Shown g.row.A.Denot). s.lines.items) w.self-is) new_is
            ],
      ),
    ))
    c.show.ensures.lines
