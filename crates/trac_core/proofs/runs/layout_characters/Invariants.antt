use Rattle.trac_core.proofs.Imports.{take, All, text_of_cells, IsLayout}
use Rattle.trac_core.proofs.runs.layout_characters.Given as goal

-- the characters so far are layout
abbrev pub invariant-loop-i : goal.invariant-loop-i
invariant-loop-i l = All IsLayout (take l.i (text_of_cells l.cells))
