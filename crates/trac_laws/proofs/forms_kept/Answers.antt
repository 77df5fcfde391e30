use Rattle.trac_laws.proofs.FormsKept.{step_keeps}
use Rattle.trac_laws.proofs.forms_kept.Goals as goal

pub returns : goal.returns
returns c = step_keeps
