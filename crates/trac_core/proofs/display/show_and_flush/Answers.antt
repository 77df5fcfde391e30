use Rattle.trac_core.proofs.Imports.{◌∙◌, show_form}
use Rattle.trac_core.proofs.FormDisplay.{prints-nothing}
use Rattle.trac_core.proofs.display.show_and_flush.Goals as goal

pub returns-clause-prints : goal.returns-clause-prints
returns-clause-prints g c = λ told.
    let told_all = c.in_ok-show_form.ensures.told told in
    prints-nothing c.flush.result _ _ (show_form c.args.form.now) (c.flush.ensures.keeps told_all ∙ c.in_ok-show_form.ensures.prints told)
