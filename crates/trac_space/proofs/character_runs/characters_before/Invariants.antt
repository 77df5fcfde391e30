use Rattle.trac_space.proofs.Imports.{◌-◌}
use Rattle.trac_space.proofs.Characters.{AreBefore}
use Rattle.trac_space.proofs.character_runs.characters_before.Given as goal

-- the cells that were looked at are characters
abbrev pub invariant-loop-count : goal.invariant-loop-count
invariant-loop-count l = AreBefore l.cells l.at l.count

-- the cells that are to be looked at
abbrev pub decreases-loop-count : goal.decreases-loop-count
decreases-loop-count l = 8 - l.count
