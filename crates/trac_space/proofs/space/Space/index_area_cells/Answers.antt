use Rattle.trac_space.proofs.Imports.{map, ap, ◌∙◌, seen}
use Rattle.trac_space.proofs.BlockChanges.{maps, index_area-part}
use Rattle.trac_space.proofs.space.Space.index_area_cells.Goals as goal

pub returns-clause-value : goal.returns-clause-value
returns-clause-value c =
    rw (← c.self.view_is) (ap (map seen) (index_area-part c.self.invariant) ∙ simp maps)
