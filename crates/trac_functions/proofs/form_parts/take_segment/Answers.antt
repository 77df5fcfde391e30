use Rattle.trac_functions.proofs.Imports.{refl, ◌∙◌, arith, form_at}
use Rattle.trac_functions.proofs.TakenParts.{segment-none, segment-gap, segment-end, takes-none, takes-some}
use Rattle.trac_functions.proofs.form_parts.take_segment.Goals as goal

pub returns-then-from-end-clause-takes : goal.returns-then-from-end-clause-takes
returns-then-from-end-clause-takes c =
    takes-none c.args.default c.args.form.0 c.args.work.now c.give.result c.give.new.work
    (segment-none (form_at c.args.work.now.forms c.args.form.0) c.pointer-from.result c.pointer-from.ensures.value (c.if-from-end.true ∙ c.body_len-end.ensures.value)) (c.give.ensures.takes refl)

pub returns-in-Some-clause-takes : goal.returns-in-Some-clause-takes
returns-in-Some-clause-takes c =
    takes-some c.args.default c.args.form.0 c.args.work.now c.take_part.result c.take_part.new.work
    (segment-gap (form_at c.args.work.now.forms c.args.form.0) c.pointer-from.result c.in-Some.gap c.pointer-from.ensures.value c.in-Some.ensures) c.take_part.ensures.takes

pub returns-in-None-clause-takes : goal.returns-in-None-clause-takes
returns-in-None-clause-takes c =
    takes-some c.args.default c.args.form.0 c.args.work.now c.take_part-in-None.result c.take_part-in-None.new.work
    (segment-end (form_at c.args.work.now.forms c.args.form.0) c.pointer-from.result c.body_len-end.result c.pointer-from.ensures.value c.body_len-end.ensures.value (let within = c.pointer-from.ensures.within in omega (arith, c.body_len-end.ensures.value)) c.if-from-end.false c.in-None.ensures) c.take_part-in-None.ensures.takes
