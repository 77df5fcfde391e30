use Rattle.std.proofs.Common.{◌≡◌, ◌+◌, ◌≤◌, length}
use Rattle.trac_checker.specs.Warned.{found_of, unexplained_by, unexplained}
use Rattle.trac_checker.proofs.run.WatchedRun.len.Given as goal

-- the warnings so far that are told, and those that are left, are all; there are no more than were found
abbrev pub invariant-loop-warning : goal.invariant-loop-warning
invariant-loop-warning g l =
    record {
      told : l.count + length (unexplained_by l.causes (found_of l.warning-iterator)) ≡ length (unexplained (found_of l.self.findings.counts.entries));
      few : l.count + length l.warning-iterator ≤ l.all;
    }
