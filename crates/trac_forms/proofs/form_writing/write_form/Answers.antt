use Rattle.trac_forms.proofs.Imports.{◌-◌, slice_range, ap, length-between}
use Rattle.trac_store.proofs.FlatLemmas.{flat_form_of}
use Rattle.trac_forms.proofs.GivenForms.{form-written}
use Rattle.trac_forms.proofs.form_writing.write_form.Goals as goal

pub returns : goal.returns
returns c =
    let s = c.args.space.now in
    let name = c.args.name in
    let text = c.args.text in
    let named = length-between s.neutral name.from name.to c.requires.parts.name_part.within in
    let texted = length-between s.neutral text.from text.to c.requires.parts.text_part.within in
    let is = form-written s.store c.args.start (slice_range s.neutral name.from name.to) (slice_range s.neutral text.from text.to) (record { name = name.to - name.from; body = text.to - text.from; pointer = 0 }) named texted c.requires.last in
    rw (c.write_part-2.ensures, c.write_part.ensures, c.write_store-3.ensures, c.write_store-2.ensures, c.write_store.ensures)
    (rw (flat_form_of s.neutral name.from name.to text.from text.to c.requires.parts.name_part c.requires.parts.text_part)
    (ap (λ cells. record s { store = cells }) is))
