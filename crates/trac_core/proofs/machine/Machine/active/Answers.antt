use Rattle.trac_core.proofs.machine.Machine.active.Goals as goal

pub returns : goal.returns
returns c = rw (← c.self.view_is) c.characters.ensures.text
