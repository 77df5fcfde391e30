use Rattle.trac_functions.proofs.Imports.{refl, form_at}
use Rattle.trac_functions.proofs.TakenParts.{next-none, next-some, takes-none, takes-some}
use Rattle.trac_functions.proofs.form_parts.take_forward.Goals as goal

pub returns-then-to-from-clause-takes : goal.returns-then-to-from-clause-takes
returns-then-to-from-clause-takes c =
    takes-none c.args.default c.args.form.0 c.args.work.now c.give.result c.give.new.work
    (next-none (form_at c.args.work.now.forms c.args.form.0) c.args.count c.pointer-from.result c.place_after-to.result c.pointer-from.ensures.value c.place_after-to.ensures.place c.if-to-from.true) (c.give.ensures.takes refl)

pub returns-clause-takes : goal.returns-clause-takes
returns-clause-takes c =
    takes-some c.args.default c.args.form.0 c.args.work.now c.take_part.result c.take_part.new.work
    (next-some (form_at c.args.work.now.forms c.args.form.0) c.args.count c.pointer-from.result c.place_after-to.result c.pointer-from.ensures.value c.pointer-from.ensures.within c.place_after-to.ensures.place c.if-to-from.false) c.take_part.ensures.takes
