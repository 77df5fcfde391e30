use Rattle.std.proofs.Common.{◌≡◌, map}
use Rattle.trac_warnings.specs.Watched.{said}
use Rattle.trac_checker.specs.FoundSoFar.{found_in, with_all}
use Rattle.trac_checker.proofs.run.add_all.Given as goal

-- what was found so far, with what the warnings say that are left, is the whole
abbrev pub invariant-loop-warning : goal.invariant-loop-warning
invariant-loop-warning g l =
    with_all (map said l.warning-iterator.rest.items) (found_in l.findings)
    ≡ with_all (map said l.fn.warnings.items) (found_in l.initial.findings)
