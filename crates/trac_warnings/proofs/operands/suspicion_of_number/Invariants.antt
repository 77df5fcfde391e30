use Rattle.std.proofs.Common.{◌≡◌, drop}
use Rattle.trac_space.specs.Texts.{text_of_cells}
use Rattle.trac_warnings.specs.Operands.{suspicion_of_number}
use Rattle.trac_warnings.proofs.operands.suspicion_of_number.Given as goal

-- no digit stands in the text so far
abbrev pub invariant-loop-i : goal.invariant-loop-i
invariant-loop-i l =
    suspicion_of_number (text_of_cells (drop l.i l.text)) ≡ suspicion_of_number (text_of_cells l.text)
