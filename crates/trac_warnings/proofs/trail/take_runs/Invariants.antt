use Rattle.std.proofs.Common.{◌≡◌, ◌+◌, length}
use Rattle.std.specs.Prelude.{reverse}
use Rattle.trac_warnings.specs.Origins.{taken}
use Rattle.trac_warnings.proofs.trail.take_runs.Given as goal

-- the runs that are left, without the characters that are left to take, are the runs that are wanted
abbrev pub invariant-loop : goal.invariant-loop
invariant-loop g l =
    record {
      runs : taken l.left (reverse l.runs.items) ≡ taken l.count (reverse l.initial.runs.items);
      len : length l.runs.items + l.counter ≡ length l.initial.runs.items;
    }
