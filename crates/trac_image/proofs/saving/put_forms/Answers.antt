use Rattle.trac_image.proofs.Imports.{◌∙◌, page}
use Rattle.trac_image.proofs.Pages.{forms-wrote}
use Rattle.trac_image.proofs.saving.put_forms.Goals as goal

pub loop-form-preserved : goal.loop-form-preserved
loop-form-preserved c =
    forms-wrote c.loop-form.form-iterator c.next.new.self c.in-Some.form (page c.loop-form.at c.loop-form.room) _ c.in-Some.ensures.steps c.put_form-at.ensures ∙ c.loop-form.invariant
