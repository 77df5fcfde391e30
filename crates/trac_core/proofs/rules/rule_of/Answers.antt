use Rattle.std.specs.Option.{option_copied}
use Rattle.trac_core.proofs.Imports.{◌∙◌, ap, sym, text_of_cells}
use Rattle.trac_core.proofs.RuleRows.{begins-nothing, row-begins}
use Rattle.trac_core.proofs.rules.rule_of.Goals as goal

pub returns-in-None : goal.returns-in-None
returns-in-None c =
    let begins = begins-nothing c.args.active.now (sym c.first.ensures.value ∙ ap option_copied c.in-None.is) in
    record { begins = begins; row = row-begins _ (text_of_cells c.args.active.now) begins }

pub returns-in-Some-clause-row : goal.returns-in-Some-clause-row
returns-in-Some-clause-row c = row-begins c.rule_at.result (text_of_cells c.args.active.now) c.rule_at.ensures
