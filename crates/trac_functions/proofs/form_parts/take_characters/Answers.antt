use Rattle.trac_functions.proofs.Imports.{sym, ◌∙◌, form_at}
use Rattle.trac_functions.proofs.TakenParts.{part-null, characters-zero, takes-some}
use Rattle.trac_functions.proofs.form_parts.take_characters.Goals as goal

pub returns-then-count-eq0-clause-takes : goal.returns-then-count-eq0-clause-takes
returns-then-count-eq0-clause-takes c =
    takes-some c.args.default c.args.form.0 c.args.work.now c.take_part.result c.take_part.new.work
    (part-null (form_at c.args.work.now.forms c.args.form.0) c.pointer-pointer.result c.pointer-pointer.ensures.value ∙ sym (characters-zero c.args.count.negative c.args.count.size (form_at c.args.work.now.forms c.args.form.0) c.if-count-eq0.true)) c.take_part.ensures.takes
