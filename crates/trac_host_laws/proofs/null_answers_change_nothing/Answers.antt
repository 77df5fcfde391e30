use Rattle.trac_host_laws.proofs.NullAnswers.{same-run}
use Rattle.trac_host_laws.proofs.null_answers_change_nothing.Goals as goal

pub returns : goal.returns
returns c = same-run
