use Rattle.trac_space.proofs.Imports.{◌≡◌, ◌-◌, ◌≤◌, length, take, replicate, Byte}
use Rattle.trac_space.proofs.block.blank_by.Given as goal

-- the cells so far are blank
abbrev pub invariant-loop-done : goal.invariant-loop-done
invariant-loop-done l =
    record {
      within : l.done ≤ length l.cells;
      blank : take l.done l.cells ≡ replicate l.done (Byte 0);
    }

abbrev pub decreases-loop-done : goal.decreases-loop-done
decreases-loop-done l = length l.initial.cells - l.done
