use Rattle.trac_functions.proofs.Imports.{◌∙◌}
use Rattle.trac_functions.proofs.Names.{pair-named, pair-two, none-named}
use Rattle.trac_functions.proofs.function.function_before_comma.Goals as goal

pub returns-then-ends_name-clause-named : goal.returns-then-ends_name-clause-named
returns-then-ends_name-clause-named c = c.function_of.ensures ∙ pair-named c.args.cells.now _ _ c.in-len2-up.len_at_least (c.ends_name.ensures.0 cc)

pub returns-then-ends_name-clause-two : goal.returns-then-ends_name-clause-two
returns-then-ends_name-clause-two c = rw c.function_of.ensures (pair-two c.args.cells.now _ _ c.in-len2-up.len_at_least (c.ends_name.ensures.0 cc))

pub returns-else-ends_name-clause-named : goal.returns-else-ends_name-clause-named
returns-else-ends_name-clause-named c =
    none-named c.args.cells.now c.ends_name.result c.in-len2-up.len_at_least c.if-ends_name.false c.ends_name.ensures.1
