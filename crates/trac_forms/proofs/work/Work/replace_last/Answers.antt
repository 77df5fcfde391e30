use Rattle.trac_forms.proofs.Imports.{◌+◌, ◌≤◌, length, ap, ◌∙◌, arith, IsSound, part_text, defined-last}
use Rattle.trac_forms.proofs.Strings.{used-stored}
use Rattle.trac_forms.proofs.work.Work.replace_last.Goals as goal

pub returns-clause-fits : goal.returns-clause-fits
returns-clause-fits c = λ _.
    let used = used-stored c.self.inside.space c.self.invariant.forms.whole in
    rw (← c.self.view_is) (omega (arith, used, c.free.ensures, c.if-free-name.false))

pub returns-clause-done : goal.returns-clause-done
returns-clause-done c =
    let now = c.args.self.now in
    let found = rw c.in-Some.is at c.requires.found in
    let sound : IsSound now = rw (← c.self.view_is) c.self.invariant.sound in
    let last : length now.forms ≤ c.in-Some.form.number + 1 = rw (← c.self.view_is) (omega (arith, c.self.invariant.count_is, c.if-form-count.false)) in
    c.write_body.ensures.written ∙ ap (λ forms. record now { forms = forms }) (defined-last (part_text now.neutral c.args.name.from c.args.name.to) (part_text now.neutral c.args.text.from c.args.text.to) now.forms c.in-Some.form.number sound.forms found.named last)
