use Rattle.std.proofs.Common.{◌≡◌, drop}
use Rattle.trac_warnings.specs.Script.{behind_digits}
use Rattle.trac_warnings.proofs.written.behind_digits.Given as goal

-- all characters so far are digits
abbrev pub invariant-loop-i : goal.invariant-loop-i
invariant-loop-i l = behind_digits l.line ≡ behind_digits (drop l.i l.line)
