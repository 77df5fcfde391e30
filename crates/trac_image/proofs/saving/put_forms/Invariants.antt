use Rattle.trac_image.proofs.Imports.{◌≡◌, flat_map, form_image, page, wrote}
use Rattle.trac_image.proofs.saving.put_forms.Given as goal

-- what is left to write gives what all gives
abbrev pub invariant-loop-form : goal.invariant-loop-form
invariant-loop-form l =
    wrote (flat_map form_image l.form-iterator) (page l.at l.room) ≡ wrote (flat_map form_image l.fn.forms) (page l.fn.at l.fn.room)
