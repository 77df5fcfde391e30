use Rattle.trac_laws.proofs.Following as proofs
use Rattle.trac_laws.proofs.table.leaves_meta.Goals as goal

pub returns : goal.returns
returns c = proofs.leaves_meta
