use Rattle.std.proofs.Common.{◌≡◌, ◌-◌, None, [], length}
use Rattle.trac_core.specs.Machine.{KeepsLimits, fresh_machine, moment}
use Rattle.trac_checker.specs.FoundSoFar.{found_in}
use Rattle.trac_checker.specs.WrittenBytes.{bytes_of}
use Rattle.trac_checker.proofs.Watching.{IsWatched}
use Rattle.trac_checker.proofs.run.watched.Given as goal

-- the run is not over, the source has not failed, the limits are those of the run and are kept, no warning is left, and
-- the run was watched so far
abbrev pub invariant-loop-findings : goal.invariant-loop-findings
invariant-loop-findings g l =
    record {
      not_over : l.machine.fate ≡ None;
      limits : KeepsLimits l.machine;
      empty : l.watch.warnings.items ≡ [];
      source_failures : g.I.Source.failure_count l.source ≡ g.I.Source.failure_count l.initial.source;
      same_allowance : l.machine.allowance ≡ l.steps;
      same_room : l.machine.room ≡ length l.fn.block;
      told : g.I.Source.tells l.initial.source → g.I.Source.tells l.source;
      watched :
          g.I.Source.tells l.initial.source →
          IsWatched l.input (fresh_machine (length l.fn.block) l.steps) (g.I.Source.stream l.initial.source)
          (moment l.machine (g.I.Source.stream l.source) (bytes_of l.null_sink.written.value)) l.watch (found_in l.findings);
    }

-- the steps that are left
abbrev pub decreases-loop-findings : goal.decreases-loop-findings
decreases-loop-findings g l = l.machine.allowance - l.machine.steps
