use Rattle.trac_core.proofs.Imports.{◌≡◌, ◌-◌, ◌∙◌, ap, sym, arith}
use Rattle.trac_core.proofs.OpenCalls.{mark-last, mark-none, mark-outside, mark-further, mark_from}
use Rattle.trac_core.proofs.machine.open_calls.mark_of.Goals as goal

pub returns-in_default : goal.returns-in_default
returns-in_default c = sym (mark-none c.args.number c.args.work.now.neutral c.in_default.ensures)

pub loop-inner-init : goal.loop-inner-init
loop-inner-init c =
    let last = c.in-Some.ensures in
    let e : c.args.number ≡ c.args.number - 0 = omega arith in
    (last.mark, mark-last c.args.number c.args.work.now.neutral c.in-Some.place last ∙ ap (λ n. mark_from n c.args.work.now.neutral c.in-Some.place) e)

pub returns-in_default-call_before : goal.returns-in_default-call_before
returns-in_default-call_before c =
    let l = c.loop-inner in
    sym (mark-outside c.args.number l._inner c.args.work.now.neutral l.place c.loop-inner-test.true c.in_default-call_before.ensures l.invariant.1)

pub loop-inner-preserved : goal.loop-inner-preserved
loop-inner-preserved c =
    let l = c.loop-inner in
    mark-further c.args.number l._inner c.args.work.now.neutral l.place c.in-Some-call_before.around c.loop-inner-test.true l.invariant.0.0 c.in-Some-call_before.ensures l.invariant.1
