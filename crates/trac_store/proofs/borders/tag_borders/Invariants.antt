use Rattle.trac_store.proofs.TaggedBorders.{BordersUpTo}
use Rattle.trac_store.proofs.borders.tag_borders.Given as goal

-- the borders of the first `count` beginnings are laid
abbrev pub invariant-loop-count : goal.invariant-loop-count
invariant-loop-count l = BordersUpTo l.fn.space l.space l.part.from l.part.to l.count l.border
