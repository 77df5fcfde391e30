use Rattle.std.proofs.Common.{◌≡◌, drop}
use Rattle.trac_warnings.specs.Printed.{closes_at_end}
use Rattle.trac_warnings.proofs.printed.closes_at_end.Given as goal

-- what closes the text is in what is left of it
abbrev pub invariant-loop-i : goal.invariant-loop-i
invariant-loop-i l = closes_at_end l.opened (drop l.i l.text) ≡ closes_at_end 1 l.text
