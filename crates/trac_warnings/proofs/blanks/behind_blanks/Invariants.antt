use Rattle.std.proofs.Common.{◌≡◌, drop}
use Rattle.trac_warnings.specs.Blanks.{behind_blanks}
use Rattle.trac_warnings.proofs.blanks.behind_blanks.Given as goal

-- all cells so far are blanks or layout
abbrev pub invariant-loop-i : goal.invariant-loop-i
invariant-loop-i l = behind_blanks (drop l.i l.cells) ≡ behind_blanks l.cells
