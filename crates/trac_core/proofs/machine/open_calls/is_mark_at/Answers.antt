use Rattle.trac_core.proofs.Imports.{◌∙◌}
use Rattle.trac_core.proofs.OpenCalls.{read-cell}
use Rattle.trac_core.proofs.machine.open_calls.is_mark_at.Goals as goal

pub returns-in_default : goal.returns-in_default
returns-in_default c = rw c.in_default.is at (read-cell c.args.work.now.neutral c.args.place c.neutral_at.result c.neutral_at.ensures)

pub returns : goal.returns
returns c = c.is_mark.ensures ∙ rw c.in-Some.is at (read-cell c.args.work.now.neutral c.args.place c.neutral_at.result c.neutral_at.ensures)
