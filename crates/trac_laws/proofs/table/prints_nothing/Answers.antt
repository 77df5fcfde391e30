use Rattle.trac_laws.proofs.Following as proofs
use Rattle.trac_laws.proofs.table.prints_nothing.Goals as goal

pub returns : goal.returns
returns c = proofs.prints_nothing
