use Rattle.trac_core.proofs.Performing.{mode-none}
use Rattle.trac_core.proofs.delivery.is_scanned_again.Goals as goal

pub returns-in-None : goal.returns-in-None
returns-in-None c = mode-none c.args.work.now.neutral c.args.place c.in-None.ensures
