use Rattle.std.proofs.Common.{◌∙◌, ◌++◌, None, ap}
use Rattle.trac_events.specs.Places.{one_more}
use Rattle.trac_views.specs.Faults.{parts_line}
use Rattle.trac_views.specs.Largest.{largest_text}
use Rattle.trac_views.specs.CallLines.{open_calls_text, where_text}
use Rattle.trac_views.proofs.Texts.{on_ok}
use Rattle.trac_views.proofs.faults.push_fault.Goals as goal

pub returns : goal.returns
returns g c =
    let step = c.saturating_add.ensures ∙ ap one_more c.steps.ensures in
    let neutral = c.neutral-neutral.result.now in
    let calls = open_calls_text c.args.width neutral in
    let largest = largest_text c.args.width 5 None c.args.machine.now.memory.forms in
    let above = c.in_ok-push_largest_forms.ensures ∙ ap (λ t. t ++ largest) (c.in_ok-push_open_calls.ensures ∙ ap (λ t. t ++ calls) c.in_ok-push_where.ensures) in
    on_ok c.push_parts.result _ _
    (λ last. (
      neutral,
      (
        c.neutral-neutral.ensures,
        last ∙ ap (λ t. t ++ parts_line c.of.result) above
            ∙ (λ i. c.args.lines.now.items ++ where_text (step i) c.args.string ++ calls ++ largest ++ parts_line (c.of.ensures i)),
      ),
    )) c.push_parts.ensures
