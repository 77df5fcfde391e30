use Rattle.std.proofs.Common.{◌≡◌, drop}
use Rattle.trac_warnings.specs.Spelling.{behind_blanks}
use Rattle.trac_warnings.proofs.spelling.behind_blanks.Given as goal

-- all characters so far are blanks or layout
abbrev pub invariant-loop-i : goal.invariant-loop-i
invariant-loop-i l = behind_blanks l.text ≡ behind_blanks (drop l.i l.text)
