use Rattle.trac_forms.proofs.Imports.{map, seen, text_of_cells, forms_in, length, sym, ap, ◌∙◌, Contents}
use Rattle.trac_store.proofs.DistinctForms.{found-round}
use Rattle.trac_forms.proofs.form_finder.FormFinder.find_among_many.Goals as goal

pub returns : goal.returns
returns c =
    let forms = c.forms.view_is ∙ c.cells-forms.ensures in
    let count_is = c.self.invariant.has.count_is ∙ ap (λ (w : Contents). length w.forms) c.self.view_is ∙ sym (ap length forms) in
    rw (← forms) (found-round (text_of_cells (map seen c.args.name.now)) (forms_in (map seen c.forms.inside.cells.now)) c.self.inside.last.number c.self.inside.count c.find_between_by_call-found.result count_is c.in_default.ensures c.find_between_by_call-found.ensures)
