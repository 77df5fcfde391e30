use Rattle.trac_c.proofs.Imports.{◌≡◌, ◌≤◌, take, false, neutral_of, has_call}
use Rattle.trac_c.proofs.strings.is_open_before.Given as goal

-- no call is open up to a place
abbrev pub invariant-loop-i : goal.invariant-loop-i
invariant-loop-i l =
    record {
      none : has_call (neutral_of (take l.i l.cells)).calls ≡ false;
      within : l.i ≤ l.place;
    }
