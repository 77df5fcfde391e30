use Rattle.trac_core.proofs.Scanning.{scans-first}
use Rattle.trac_core.proofs.scan.add_number_sign.Goals as goal

pub returns-clause-scans : goal.returns-clause-scans
returns-clause-scans c = rw c.active_to_cell.ensures.turned (scans-first c.args.work.now 35 c.requires.first.1)
