use Rattle.trac_laws.proofs.Fitting.{rule-fits}
use Rattle.trac_laws.proofs.Stepping.{step-fits}
use Rattle.trac_laws.proofs.one_rule_fits.Goals as goal

pub returns-clause-rule : goal.returns-clause-rule
returns-clause-rule c = rule-fits

pub returns-clause-step : goal.returns-clause-step
returns-clause-step c = step-fits
