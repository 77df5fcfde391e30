use Rattle.trac_laws.proofs.Quoting.{quoted_law}
use Rattle.trac_laws.proofs.quoted.Goals as goal

pub returns : goal.returns
returns c = quoted_law
