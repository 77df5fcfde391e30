use Rattle.trac_space.proofs.TaggedCommas.{TaggedSoFar}
use Rattle.trac_space.proofs.filling.tag_commas.Given as goal

-- of the cells up to a place the comma marks' places are laid
abbrev pub invariant-loop-at : goal.invariant-loop-at
invariant-loop-at l = TaggedSoFar l.fn.cells l.cells l.at l.count
