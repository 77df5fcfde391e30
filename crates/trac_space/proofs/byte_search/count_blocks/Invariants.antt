use Rattle.trac_space.proofs.Imports.{◌≡◌, ◌≤◌, ◌-◌, take, false, length, ◌==◌, list_any}
use Rattle.trac_space.proofs.byte_search.count_blocks.Given as goal

-- `stop` doesn't stand among the bytes so far
abbrev pub invariant-loop-done : goal.invariant-loop-done
invariant-loop-done l =
    record {
      within : l.done ≤ length l.text;
      none : list_any (λ b. b == l.stop) (take l.done l.text) ≡ false;
    }

-- the bytes that are left
abbrev pub decreases-loop-done : goal.decreases-loop-done
decreases-loop-done l = length l.text - l.done
