use Rattle.std.proofs.Common.{◌≡◌}
use Rattle.trac_warnings.specs.Explained.{no_cause}
use Rattle.trac_checker.specs.Warned.{causes_with, found_of}
use Rattle.trac_checker.proofs.run.causes_of.Given as goal

-- the causes so far, with those of the warnings that are left, are all
abbrev pub invariant-loop-warning : goal.invariant-loop-warning
invariant-loop-warning g l =
    causes_with l.causes (found_of l.warning-iterator) ≡ causes_with no_cause (found_of l.findings.counts.entries)
