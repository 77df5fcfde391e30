use Rattle.trac_core.proofs.Imports.{◌∙◌, sym}
use Rattle.trac_functions.proofs.FlatLemmas.{size-used}
use Rattle.trac_core.proofs.machine.Machine.size.Goals as goal

pub returns : goal.returns
returns c = rw (← c.self.view_is) (c.used.ensures.value ∙ sym (size-used c.self.inside.meta c.self.inside.work))
