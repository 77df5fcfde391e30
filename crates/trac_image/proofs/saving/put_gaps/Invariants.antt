use Rattle.trac_image.proofs.Imports.{◌≡◌, ◌≤◌, ◌+◌, ◌-◌, drop, gap_bytes, length, page, wrote}
use Rattle.trac_image.proofs.saving.put_gaps.Given as goal

-- what is left to write gives what all gives
abbrev pub invariant-loop-place : goal.invariant-loop-place
invariant-loop-place l = record {
  below : l.place ≤ length l.form.body + 1;
  wrote : wrote (gap_bytes 0 (drop l.place l.form.body)) (page l.at l.room) ≡ wrote (gap_bytes 0 l.form.body) (page l.fn.at l.fn.room);
}

-- the items that are left
abbrev pub decreases-loop-place : goal.decreases-loop-place
decreases-loop-place l = length l.form.body + 1 - l.place
