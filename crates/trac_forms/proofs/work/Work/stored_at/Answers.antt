use Rattle.trac_forms.proofs.Imports.{◌∙◌, arith, forms_in, pointer-within}
use Rattle.trac_forms.proofs.ListedForms.{stored-form, stored-is_form}
use Rattle.trac_forms.proofs.work.Work.stored_at.Goals as goal

pub invariant_of-result : goal.invariant_of-result
invariant_of-result c =
    let h = c.heads_of-heads.ensures in
    let inside = pointer-within (forms_in c.self.inside.space.store) c.args.form.number c.self.invariant.sound.forms in
    stored-is_form _ _ _ _ (c.store_part.ensures ∙ h.name_cells) (c.store_part-2.ensures ∙ h.body_cells) h.pointer (omega (arith, h, c.self.invariant.forms.bounded)) inside

pub returns : goal.returns
returns c =
    let h = c.heads_of-heads.ensures in
    rw (← c.self.view_is) (stored-form _ _ _ _ (c.store_part.ensures ∙ h.name_cells) (c.store_part-2.ensures ∙ h.body_cells) h.pointer)
