use Rattle.trac_functions.proofs.Imports.{refl, sym, ◌∙◌, arith, form_at, part_text}
use Rattle.trac_functions.proofs.ArgumentLemmas.{part-long}
use Rattle.trac_functions.proofs.TakenParts.{part-null, initial-null, initial-some, initial-none, takes-none, takes-some}
use Rattle.trac_functions.proofs.form_parts.take_initial.Goals as goal

pub returns-then-sought-clause-takes : goal.returns-then-sought-clause-takes
returns-then-sought-clause-takes c =
    let long = part-long c.args.work.now.neutral c.args.sought.from c.args.sought.to c.requires.sought in
    let same = c.if-sought.true in
    takes-some c.args.default c.args.form.0 c.args.work.now c.take_part.result c.take_part.new.work
    (part-null (form_at c.args.work.now.forms c.args.form.0) c.pointer-pointer.result c.pointer-pointer.ensures.value ∙ sym (initial-null (part_text c.args.work.now.neutral c.args.sought.from c.args.sought.to) (form_at c.args.work.now.forms c.args.form.0) (omega arith))) c.take_part.ensures.takes

pub returns-in-Some-clause-takes : goal.returns-in-Some-clause-takes
returns-in-Some-clause-takes c =
    let long = part-long c.args.work.now.neutral c.args.sought.from c.args.sought.to c.requires.sought in
    let order = c.requires.sought.order in
    let other = c.if-sought.false in
    let found = c.in-Some.ensures.found in
    takes-some c.args.default c.args.form.0 c.args.work.now c.take_part-in-Some.result c.take_part-in-Some.new.work
    (initial-some (part_text c.args.work.now.neutral c.args.sought.from c.args.sought.to) (form_at c.args.work.now.forms c.args.form.0) c.pointer-pointer.result c.in-Some.begin c.in-Some.end c.pointer-pointer.ensures.value (omega arith) found.0 (omega (arith, found.1))) (rw c.occurrence.ensures.same at c.take_part-in-Some.ensures.takes)

pub returns-in-None-clause-takes : goal.returns-in-None-clause-takes
returns-in-None-clause-takes c =
    let long = part-long c.args.work.now.neutral c.args.sought.from c.args.sought.to c.requires.sought in
    let order = c.requires.sought.order in
    let other = c.if-sought.false in
    takes-none c.args.default c.args.form.0 c.args.work.now c.give.result c.give.new.work
    (initial-none (part_text c.args.work.now.neutral c.args.sought.from c.args.sought.to) (form_at c.args.work.now.forms c.args.form.0) c.pointer-pointer.result c.pointer-pointer.ensures.value c.pointer-pointer.ensures.within (omega arith) c.in-None.ensures.found) (rw c.occurrence.ensures.same at (c.give.ensures.takes refl))
