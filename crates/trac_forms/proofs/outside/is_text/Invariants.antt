use Rattle.trac_forms.proofs.Imports.{◌≡◌, take, text_of_cells}
use Rattle.trac_forms.proofs.outside.is_text.Given as goal

-- the characters so far are the same
abbrev pub invariant-loop-i : goal.invariant-loop-i
invariant-loop-i l = take l.i (text_of_cells l.cells) ≡ take l.i l.text
