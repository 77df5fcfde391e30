use Rattle.trac_space.proofs.Imports.{◌-◌}
use Rattle.trac_space.proofs.Characters.{AreUpTo}
use Rattle.trac_space.proofs.character_runs.characters_each.Given as goal

-- `count` characters stand from `start` on
abbrev pub invariant-loop-count : goal.invariant-loop-count
invariant-loop-count l = AreUpTo l.cells l.start l.most l.count

-- the cells that are to be looked at
abbrev pub decreases-loop-count : goal.decreases-loop-count
decreases-loop-count l = l.most - l.count
