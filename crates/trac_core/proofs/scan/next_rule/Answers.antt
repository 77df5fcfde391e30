use Rattle.trac_core.proofs.Imports.{subst}
use Rattle.trac_core.specs.Rules.{Begins}
use Rattle.trac_core.proofs.scan.next_rule.Goals as goal

pub returns : goal.returns
returns c = subst (Begins c.rule_of.result) c.characters.ensures.text c.rule_of.ensures.begins
