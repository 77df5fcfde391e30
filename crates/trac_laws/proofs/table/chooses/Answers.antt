use Rattle.trac_laws.proofs.Values as proofs
use Rattle.trac_laws.proofs.table.chooses.Goals as goal

pub returns : goal.returns
returns c = proofs.chooses
