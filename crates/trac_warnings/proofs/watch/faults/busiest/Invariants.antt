use Rattle.std.proofs.Common.{◌≡◌, None}
use Rattle.std.specs.Prelude.{option_map}
use Rattle.trac_warnings.specs.Counted.{counts_of}
use Rattle.trac_warnings.specs.Ended.{busiest, seen}
use Rattle.trac_warnings.proofs.watch.faults.busiest.Given as goal

-- the form that was called most often so far, or of those that are left, is that of all
abbrev pub invariant-loop-name : goal.invariant-loop-name
invariant-loop-name g l =
    busiest (option_map seen l.best) (counts_of l.name-iterator) ≡ busiest None (counts_of l.written.entries)
