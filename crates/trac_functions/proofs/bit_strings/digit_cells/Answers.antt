use Rattle.trac_functions.proofs.BitResults.{seen-octal, seen-bits}
use Rattle.trac_functions.proofs.bit_strings.digit_cells.Goals as goal

pub returns-clause-octal : goal.returns-clause-octal
returns-clause-octal c = seen-octal _ _ c.neutral_part.ensures c.requires.octal

pub returns-clause-bits : goal.returns-clause-bits
returns-clause-bits c = seen-bits _ _ c.neutral_part.ensures
