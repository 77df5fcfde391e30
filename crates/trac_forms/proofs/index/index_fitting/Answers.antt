use Rattle.trac_forms.proofs.Imports.{length, ap, arith, forms_in}
use Rattle.trac_store.proofs.FlatLemmas.{count-le}
use Rattle.trac_forms.proofs.index.index_fitting.Goals as goal

pub index_cells-cells-requires : goal.index_cells-cells-requires
index_cells-cells-requires c =
    omega (arith, count-le (forms_in c.args.space.now.store), ap length c.requires.forms.whole, c.requires.count_is, c.requires.forms.bounded)
