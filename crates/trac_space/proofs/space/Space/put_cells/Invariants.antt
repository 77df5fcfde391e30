use Rattle.trac_space.proofs.Imports.{◌≡◌, ◌++◌, take, map, seen}
use Rattle.trac_space.proofs.space.Space.put_cells.Given as goal

-- the cells so far are put
abbrev pub invariant-loop-cell : goal.invariant-loop-cell
invariant-loop-cell l =
    l.self ≡ record l.fn.self { neutral = l.fn.self.neutral ++ map seen (take l.cell-index l.cells) }
