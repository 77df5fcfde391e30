use Rattle.std.proofs.Common.{◌≡◌, length, map, reverse}
use Rattle.trac_warnings.specs.Watched.{KeepsRun, said}
use Rattle.trac_checker.specs.FoundSoFar.{found_in, with_all}
use Rattle.trac_checker.proofs.run.keep_warnings.Given as goal

-- what was found so far, with what the warnings say that are left, is the whole
abbrev pub invariant-loop-warning : goal.invariant-loop-warning
invariant-loop-warning g l =
    record {
      stays : KeepsRun l.initial.watch l.watch;
      found :
          with_all (reverse (map said l.watch.warnings.items)) (found_in l.findings)
          ≡ with_all (reverse (map said l.initial.watch.warnings.items)) (found_in l.initial.findings);
    }

-- the warnings that are left
abbrev pub decreases-loop-warning : goal.decreases-loop-warning
decreases-loop-warning g l = length l.watch.warnings.items
