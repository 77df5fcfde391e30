use Rattle.trac_core.proofs.RuleRows.{layout-first}
use Rattle.trac_core.proofs.runs.is_layout.Goals as goal

pub returns-in_default : goal.returns-in_default
returns-in_default c = layout-first c.rule_by_first.result c.args.character c.rule_by_first.ensures c.in_default.not-Layout
