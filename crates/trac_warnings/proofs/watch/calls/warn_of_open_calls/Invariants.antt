use Rattle.std.proofs.Common.{◌≡◌, ◌++◌, drop, map}
use Rattle.trac_warnings.specs.StepWarnings.{open_warnings}
use Rattle.trac_warnings.specs.Watched.{Kept, said}
use Rattle.trac_warnings.proofs.watch.calls.warn_of_open_calls.Given as goal

-- the earlier warnings stay; those so far, and those of the calls that are left, are all
abbrev pub invariant-loop-call : goal.invariant-loop-call
invariant-loop-call g l =
    record {
      kept : Kept l.initial.warnings.items l.warnings.items;
      said : map said l.warnings.items ++ open_warnings l.suspicion (drop l.call-index l.calls)
          ≡ map said l.initial.warnings.items ++ open_warnings l.suspicion l.calls;
    }
