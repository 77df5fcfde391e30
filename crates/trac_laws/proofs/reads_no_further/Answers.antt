use Rattle.trac_laws.proofs.FurtherInput.{reads_no_further_law}
use Rattle.trac_laws.proofs.reads_no_further.Goals as goal

pub returns : goal.returns
returns c = reads_no_further_law
