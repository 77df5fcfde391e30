use Rattle.trac_laws.proofs.Runs.{more_steps_law, fewer_steps_law}
use Rattle.trac_laws.proofs.more_steps.Goals as goal

pub returns-clause-larger : goal.returns-clause-larger
returns-clause-larger c = more_steps_law

pub returns-clause-fewer : goal.returns-clause-fewer
returns-clause-fewer c = fewer_steps_law
