use Rattle.std.proofs.Common.{◌≡◌, ◌+◌, length, map}
use Rattle.std.specs.Prelude.{reverse}
use Rattle.trac_warnings.specs.StepWarnings.{ended, not_ended}
use Rattle.trac_warnings.specs.Watched.{Kept, said}
use Rattle.trac_warnings.proofs.watch.Watch.warn_of_each_end.Given as goal

-- the places, the forms and the earlier warnings stay; what is said of the strings that are left is said of all
abbrev pub invariant-loop : goal.invariant-loop
invariant-loop g l =
    record {
      runs : l.self.runs.items ≡ l.initial.self.runs.items;
      read : l.self.read ≡ l.initial.self.read;
      kept : Kept l.initial.self.warnings.items l.self.warnings.items;
      calls : l.self.calls.items ≡ l.initial.self.calls.items;
      written : l.self.written ≡ l.initial.self.written;
      len : length l.self.strings.items + l.counter ≡ length l.initial.self.strings.items;
      strings : not_ended l.active (reverse l.self.strings.items) ≡ not_ended l.active (reverse l.initial.self.strings.items);
      said : ended l.rule l.active l.here l.initial.self.calls.items (map said l.self.warnings.items) (reverse l.self.strings.items)
          ≡ ended l.rule l.active l.here l.initial.self.calls.items (map said l.initial.self.warnings.items) (reverse l.initial.self.strings.items);
    }
