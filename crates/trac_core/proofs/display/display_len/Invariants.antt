use Rattle.trac_core.proofs.Imports.{◌≡◌, ◌≤◌, ◌+◌, ◌-◌, ◌*◌, length, slice_range, show}
use Rattle.trac_core.proofs.display.display_len.Given as goal

-- the bytes of the items up to a place were counted
abbrev pub invariant-loop-place : goal.invariant-loop-place
invariant-loop-place l =
    record {
      below : l.place ≤ length l.form.body;
      counted : l.len ≡ 3 + length (show (slice_range l.form.body 0 l.place));
      few : l.len ≤ 3 + 12 * l.place;
    }

-- the items that are left
abbrev pub decreases-loop-place : goal.decreases-loop-place
decreases-loop-place l = length l.form.body - l.place
