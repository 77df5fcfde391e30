use Rattle.trac_functions.proofs.Imports.{refl, form_at}
use Rattle.trac_functions.proofs.TakenParts.{one-none, one-some, takes-none, takes-some}
use Rattle.trac_functions.proofs.form_parts.take_later_character.Goals as goal

pub returns-in-None-clause-takes : goal.returns-in-None-clause-takes
returns-in-None-clause-takes c =
    takes-none c.args.default c.args.form.0 c.args.work.now c.give.result c.give.new.work
    (one-none (form_at c.args.work.now.forms c.args.form.0) c.pointer-from.result c.pointer-from.ensures.value c.pointer-from.ensures.within c.in-None.ensures) (c.give.ensures.takes refl)

pub returns-in-Some-clause-takes : goal.returns-in-Some-clause-takes
returns-in-Some-clause-takes c =
    takes-some c.args.default c.args.form.0 c.args.work.now c.take_one.result c.take_one.new.work
    (one-some (form_at c.args.work.now.forms c.args.form.0) c.pointer-from.result c.in-Some.place c.pointer-from.ensures.value c.pointer-from.ensures.within c.in-Some.ensures) c.take_one.ensures.takes
