use Rattle.trac_space.proofs.Filled.{FilledFrom, task}
use Rattle.trac_space.proofs.filling.fill_each.Given as goal

-- the cells from a place on stand, filled
abbrev pub invariant-loop-at : goal.invariant-loop-at
invariant-loop-at l =
    FilledFrom (task l.fn.cells l.from l.stop l.low l.fn.to l.given.start l.given.len) l.cells l.at l.to

-- the cells that are left
abbrev pub decreases-loop-at : goal.decreases-loop-at
decreases-loop-at l = l.at
