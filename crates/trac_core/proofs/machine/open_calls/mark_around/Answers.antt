use Rattle.trac_core.proofs.Imports.{◌∙◌, sym, take}
use Rattle.trac_core.proofs.OpenCalls.{around-mark, around-other, call-within, first-place}
use Rattle.trac_core.proofs.machine.open_calls.mark_around.Goals as goal

pub returns-in_default : goal.returns-in_default
returns-in_default c = rw c.in_default.is (first-place c.args.work.now.neutral c.last_call.result c.last_call.ensures)

pub call_before-requires : goal.call_before-requires
call_before-requires c =
    let mark = sym c.is_mark_at.ensures ∙ c.if-is_mark_at.true in
    (call-within c.args.work.now.neutral c.in-Some.place mark, mark)

pub returns-then-is_mark_at : goal.returns-then-is_mark_at
returns-then-is_mark_at c =
    let cells = c.args.work.now.neutral in
    let place = c.in-Some.place in
    let mark = sym c.is_mark_at.ensures ∙ c.if-is_mark_at.true in
    rw c.in-Some.is (first-place (take place cells) c.call_before.result c.call_before.ensures ∙ sym (around-mark cells place (call-within cells place mark, mark)))

pub returns-else-is_mark_at : goal.returns-else-is_mark_at
returns-else-is_mark_at c =
    rw c.in-Some.is (sym (around-other c.args.work.now.neutral c.in-Some.place (sym c.is_mark_at.ensures ∙ c.if-is_mark_at.false)))
