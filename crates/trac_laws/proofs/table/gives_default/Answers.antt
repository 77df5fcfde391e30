use Rattle.trac_laws.proofs.Following as following
use Rattle.trac_laws.proofs.Values as values
use Rattle.trac_laws.proofs.table.gives_default.Goals as goal

pub returns-clause-only : goal.returns-clause-only
returns-clause-only c = following.only_default

pub returns-clause-given : goal.returns-clause-given
returns-clause-given c = values.gives_default
