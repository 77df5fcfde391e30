use Rattle.trac_core.proofs.RuleRows.{special-first}
use Rattle.trac_core.proofs.runs.is_special.Goals as goal

pub returns-in_default : goal.returns-in_default
returns-in_default c = special-first c.rule_by_first.result c.args.character c.rule_by_first.ensures c.in_default.not-Character
