use Rattle.std.proofs.Common.{◌≡◌, ◌-◌, [], None}
use Rattle.trac_tracer.proofs.StepByStep.{IsShown}
use Rattle.trac_tracer.proofs.tracing.trace.Given as goal

-- the run is not over, no device has failed, and the steps so far were shown
abbrev pub invariant-loop-last : goal.invariant-loop-last
invariant-loop-last g l =
    record {
      not_over : l.machine.fate ≡ None;
      source_failures : g.I.Source.failure_count l.source ≡ g.I.Source.failure_count l.initial.source;
      sink_failures : l.printed.failures ≡ 0;
      empty : l.printed.bytes.items ≡ [];
      no_peak : l.machine.peak ≡ 0;
      room : l.machine.room ≡ l.options.cells;
      allowance : l.machine.allowance ≡ l.options.steps;
      views : l.shown.views ≡ l.options.views;
      told : g.I.Source.tells l.initial.source → g.I.Source.tells l.source;
      shows :
          g.I.Source.tells l.initial.source →
          IsShown l.options.views l.options.cells l.options.steps (g.I.Source.stream l.initial.source) (g.W.Write.contents l.fn.output) (g.W.Write.contents l.output)
          (record { machine = l.machine; top = l.shown.peak; depth = l.shown.depth; source = g.I.Source.stream l.source; last = l.last });
    }

-- the steps that are left
abbrev pub decreases-loop-last : goal.decreases-loop-last
decreases-loop-last g l = l.machine.allowance - l.machine.steps
