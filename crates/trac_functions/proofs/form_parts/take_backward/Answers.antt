use Rattle.trac_functions.proofs.Imports.{refl, form_at}
use Rattle.trac_functions.proofs.TakenParts.{previous-none, previous-some, takes-none, takes-some}
use Rattle.trac_functions.proofs.form_parts.take_backward.Goals as goal

pub returns-then-from-to-clause-takes : goal.returns-then-from-to-clause-takes
returns-then-from-to-clause-takes c =
    takes-none c.args.default c.args.form.0 c.args.work.now c.give.result c.give.new.work
    (previous-none (form_at c.args.work.now.forms c.args.form.0) c.args.count c.place_before-from.result c.pointer-to.result c.pointer-to.ensures.value c.place_before-from.ensures c.if-from-to.true) (c.give.ensures.takes refl)

pub returns-clause-takes : goal.returns-clause-takes
returns-clause-takes c =
    takes-some c.args.default c.args.form.0 c.args.work.now c.take_part.result c.take_part.new.work
    (previous-some (form_at c.args.work.now.forms c.args.form.0) c.args.count c.place_before-from.result c.pointer-to.result c.pointer-to.ensures.value c.pointer-to.ensures.within c.place_before-from.ensures c.if-from-to.false) c.take_part.ensures.takes
