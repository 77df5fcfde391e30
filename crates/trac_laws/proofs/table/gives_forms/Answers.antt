use Rattle.trac_laws.proofs.Values as values
use Rattle.trac_laws.proofs.table.gives_forms.Goals as goal

pub returns-clause-body : goal.returns-clause-body
returns-clause-body c = values.gives_body

pub returns-clause-part : goal.returns-clause-part
returns-clause-part c = values.gives_part

pub returns-clause-nothing : goal.returns-clause-nothing
returns-clause-nothing c = values.gives_nothing
