use Rattle.trac_events.proofs.Depth.{step_leaves}
use Rattle.trac_events.proofs.before.depth_follows.Goals as goal

pub returns : goal.returns
returns c = step_leaves
