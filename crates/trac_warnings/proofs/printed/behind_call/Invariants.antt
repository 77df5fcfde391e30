use Rattle.std.proofs.Common.{◌≡◌, drop}
use Rattle.trac_warnings.specs.Printed.{behind_call}
use Rattle.trac_warnings.proofs.printed.behind_call.Given as goal

-- the first call in what is left of the text is the first in all of it
abbrev pub invariant-loop-i : goal.invariant-loop-i
invariant-loop-i l = behind_call (drop l.i l.text) ≡ behind_call l.text
