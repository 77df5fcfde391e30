use Rattle.trac_events.proofs.Imports.{◌≡◌, drop, text_of_cells, is_same}
use Rattle.trac_events.proofs.change.is_same.Given as goal

-- the two texts are the same exactly if what is left of them is the same
abbrev pub invariant-loop-x : goal.invariant-loop-x
invariant-loop-x l =
    is_same (text_of_cells (drop l.x-index l.a)) (text_of_cells l.rest) ≡ is_same (text_of_cells l.a) (text_of_cells l.b)
