use Rattle.std.proofs.Common.{◌∙◌, ◌++◌, ap, sym, None}
use Rattle.trac_views.specs.Largest.{form_at_text, next_largest}
use Rattle.trac_views.proofs.LargestTold.{told_all, told_one}
use Rattle.trac_views.proofs.largest.push_largest_forms.Goals as goal

pub returns-in_default : goal.returns-in_default
returns-in_default g c =
    let none = c.in_default.ensures ∙ ap (λ fs. next_largest c.loop-told.last 0 fs None) c.forms.ensures in
    told_all c.args.width c.loop-told._told c.loop-told.last c.args.machine.now.memory.forms _ c.loop-told.lines.items
    c.loop-told-test.true c.loop-told.invariant (sym none)

pub loop-told-preserved : goal.loop-told-preserved
loop-told-preserved g c =
    let forms = c.args.machine.now.memory.forms in
    told_one c.args.width c.loop-told._told c.loop-told.last forms _ c.loop-told.lines.items c.loop-told-test.true c.loop-told.invariant
    c.in-Some.next c.push_form_at.new.lines.items
    (sym (c.in-Some.ensures ∙ ap (λ fs. next_largest c.loop-told.last 0 fs None) c.forms.ensures))
    (c.in_ok-push_form_at.ensures ∙ ap (λ fs. c.loop-told.lines.items ++ form_at_text c.args.width c.in-Some.next 0 fs) c.forms-in-loop-told.ensures)
