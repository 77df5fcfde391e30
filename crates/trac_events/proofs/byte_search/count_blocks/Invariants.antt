use Rattle.std.proofs.Common.{◌≡◌, ◌≤◌, ◌-◌, take, false, length}
use Rattle.std.specs.List.{list_any}
use Rattle.trac_events.proofs.byte_search.count_blocks.Given as goal

-- none of the bytes so far is looked for
abbrev pub invariant-loop-done : goal.invariant-loop-done
invariant-loop-done g l =
    record {
      within : l.done ≤ length l.text;
      none : list_any (g.S.Sought.seeks l.sought) (take l.done l.text) ≡ false;
    }

-- the bytes that are left
abbrev pub decreases-loop-done : goal.decreases-loop-done
decreases-loop-done g l = length l.text - l.done
