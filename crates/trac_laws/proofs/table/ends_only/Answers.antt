use Rattle.trac_laws.proofs.Following as proofs
use Rattle.trac_laws.proofs.table.ends_only.Goals as goal

pub returns : goal.returns
returns c = proofs.ends_only
