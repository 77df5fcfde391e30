use Rattle.trac_laws.proofs.Values as proofs
use Rattle.trac_laws.proofs.table.needs_form.Goals as goal

pub returns : goal.returns
returns c = proofs.needs_form
