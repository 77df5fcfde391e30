use Rattle.trac_space.proofs.Imports.{◌≡◌, ◌++◌, map, take, drop}
use Rattle.trac_space.specs.Tags.{untagged}
use Rattle.trac_space.proofs.tags.clear_tags.Given as goal

-- the numbers are lifted off the first k cells
abbrev pub invariant-loop-k : goal.invariant-loop-k
invariant-loop-k l = l.cells ≡ map untagged (take l.k l.fn.cells) ++ drop l.k l.fn.cells
