use Rattle.trac_store.proofs.Imports.{map, seen, text_of_cells, forms_in}
use Rattle.trac_store.proofs.DistinctForms.{found-round}
use Rattle.trac_store.proofs.form_cells.find_from_last.Goals as goal

pub returns-in-None : goal.returns-in-None
returns-in-None c =
    found-round (text_of_cells (map seen c.args.name.now)) (forms_in (map seen c.args.cells.now)) c.args.last.number c.args.count c.find_between-in-None.result c.requires.forms.count_is c.in-None.ensures c.find_between-in-None.ensures
