use Rattle.trac_image.proofs.Imports.{◌∙◌, ◌≡◌, ap, arith, cells, form_cells, length, length-map, sum_by-cons, sym}
use Rattle.trac_space.specs.Texts.{character_of}
use Rattle.trac_image.proofs.loading.cells_of_forms.Goals as goal

pub loop-form-preserved : goal.loop-form-preserved
loop-form-preserved c =
    let form = c.in-Some.form in
    let name : length c.name.result.now ≡ length form.name = sym (length-map c.name.result.now character_of) ∙ ap length c.name.ensures in
    let next = ap cells c.in-Some.ensures.steps ∙ sum_by-cons form_cells form c.next.new.self in
    omega (arith, c.loop-form.invariant, name, c.from.ensures, c.body_len.ensures.value, next)

pub returns : goal.returns
returns c = omega (arith, c.loop-form.invariant, ap cells c.in-None.ensures.steps.0)
