use Rattle.std.proofs.Common.{◌≡◌, drop}
use Rattle.std.specs.Prelude.{false}
use Rattle.trac_warnings.specs.Printed.{has_two_at_end}
use Rattle.trac_warnings.proofs.printed.has_two_at_end.Given as goal

-- no line so far ends with two characters
abbrev pub invariant-loop-byte : goal.invariant-loop-byte
invariant-loop-byte l =
    has_two_at_end l.is_behind (drop l.byte-index l.text) ≡ has_two_at_end false l.text
