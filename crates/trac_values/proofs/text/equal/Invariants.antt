use Rattle.trac_values.proofs.Imports.{◌≡◌, take, text_of_cells}
use Rattle.trac_values.proofs.text.equal.Given as goal

-- the texts are the same so far
abbrev pub invariant-loop-i : goal.invariant-loop-i
invariant-loop-i l = take l.i (text_of_cells l.a) ≡ take l.i (text_of_cells l.b)
