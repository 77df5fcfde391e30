use Rattle.std.proofs.Common.{◌≡◌, ◌++◌, take}
use Rattle.std.specs.List.{flat_map}
use Rattle.trac_events.specs.Places.{behind_text, first_place}
use Rattle.trac_checker.specs.Warned.{found_of, names_of, unexplained_by, unexplained, warning_line}
use Rattle.trac_checker.proofs.run.WatchedRun.push_warnings.Given as goal

-- the place is that behind the bytes that were read; the lines so far and those of the warnings that are left
-- are the whole
abbrev pub invariant-loop-warning : goal.invariant-loop-warning
invariant-loop-warning g l =
    record {
      place : l.place ≡ behind_text first_place (take l.read l.input);
      lines : l.lines.items ++ flat_map (warning_line l.head l.input (names_of l.self.watch.names.items)) (unexplained_by l.causes (found_of l.warning-iterator))
          ≡ l.initial.lines.items ++ flat_map (warning_line l.head l.input (names_of l.self.watch.names.items)) (unexplained (found_of l.self.findings.counts.entries));
    }
