use Rattle.trac_laws.proofs.Values as proofs
use Rattle.trac_laws.proofs.table.uses_few.Goals as goal

pub returns : goal.returns
returns c = proofs.uses_few
