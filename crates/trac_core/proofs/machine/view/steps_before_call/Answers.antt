use Rattle.std.proofs.lemmas.List.{take_all}
use Rattle.trac_core.proofs.Imports.{◌≡◌, ◌-◌, length, drop, true, false, ap, sym, ◌∙◌, arith, rule, text_of_cells, length-drop}
use Rattle.trac_core.specs.View.{row_of, stops_before, steps_before_call, taken}
use Rattle.trac_core.proofs.Scanning.{text-from}
use Rattle.trac_core.proofs.RuleRows.{steps-end, steps-more, steps-none}
use Rattle.trac_core.proofs.machine.view.steps_before_call.Goals as goal

pub returns-then-stops_before : goal.returns-then-stops_before
returns-then-stops_before c =
    let active = c.args.active.now in
    let place = c.loop-steps.place in
    let rest = drop place (text_of_cells active) in
    let ends : stops_before (row_of (rule rest)) ≡ true =
    sym (c.stops_before.ensures ∙ ap stops_before (c.rule_of.ensures.row ∙ ap (λ t. row_of (rule t)) (text-from place active))) ∙ c.if-stops_before.true in
    omega (arith, c.loop-steps.invariant.counted, steps-end (c.args.most - c.loop-steps.steps) rest ends)

pub loop-steps-preserved : goal.loop-steps-preserved
loop-steps-preserved c =
    let active = c.args.active.now in
    let place = c.loop-steps.place in
    let text = text_of_cells active in
    let rest = text-from place active in
    let goes : stops_before (row_of (rule (drop place text))) ≡ false =
    sym (c.stops_before.ensures ∙ ap stops_before (c.rule_of.ensures.row ∙ ap (λ t. row_of (rule t)) rest)) ∙ c.if-stops_before.false in
    let took = c.taken_from-place.ensures.taken ∙ ap (λ t. taken (rule t) (length t)) rest in
    let all = take_all (length active - place) (drop place active) (omega (arith, length-drop place active)) in
    record {
      counted =
          steps-more c.args.most c.loop-steps.steps place c.taken_from-place.result text c.loop-steps-test.true goes took
          ∙ c.loop-steps.invariant.counted;
      few = omega arith;
      within = omega (arith, c.taken_from-place.ensures.within, c.loop-steps.invariant.within, ap (λ l. length l) all, length-drop place active);
    }

pub returns : goal.returns
returns c =
    let rest = drop c.loop-steps.place (text_of_cells c.args.active.now) in
    let none : c.args.most - c.loop-steps.steps ≡ 0 = omega arith in
    omega (arith, c.loop-steps.invariant.counted, ap (λ n. steps_before_call n rest) none, steps-none rest)
