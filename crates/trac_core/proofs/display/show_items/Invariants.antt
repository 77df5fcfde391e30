use Rattle.trac_core.proofs.Imports.{◌≡◌, ◌≤◌, ◌-◌, ◌++◌, slice_range, show}
use Rattle.trac_core.proofs.display.show_items.Given as goal

-- the items up to a place were displayed
abbrev pub invariant-loop-place : goal.invariant-loop-place
invariant-loop-place g l =
    record {
      above : l.from ≤ l.place;
      below : l.place ≤ l.to;
      counts : g.O.Sink.failure_count l.sink ≡ g.O.Sink.failure_count l.initial.sink;
      kept : g.O.Sink.lent l.sink ≡ g.O.Sink.lent l.initial.sink;
      told : g.O.Sink.tells l.initial.sink → g.O.Sink.tells l.sink;
      writes : g.O.Sink.tells l.initial.sink → g.O.Sink.written l.sink ≡ g.O.Sink.written l.initial.sink ++ show (slice_range l.form.body l.from l.place);
    }

-- the items that are left
abbrev pub decreases-loop-place : goal.decreases-loop-place
decreases-loop-place g l = l.to - l.place
