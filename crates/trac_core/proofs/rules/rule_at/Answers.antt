use Rattle.trac_core.proofs.Imports.{text_of_cells}
use Rattle.trac_core.proofs.RuleRows.{begins-first}
use Rattle.trac_core.proofs.rules.rule_at.Goals as goal

pub returns-in_default : goal.returns-in_default
returns-in_default c = begins-first c.rule_by_first.result (text_of_cells c.args.active.now) c.args.first c.requires.first c.rule_by_first.ensures c.in_default.not-NumberSign
