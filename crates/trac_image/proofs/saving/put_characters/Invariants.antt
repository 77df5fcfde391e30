use Rattle.trac_image.proofs.Imports.{◌≡◌, ◌≤◌, ◌+◌, ◌-◌, drop, length, page, text_of, wrote}
use Rattle.trac_image.proofs.saving.put_characters.Given as goal

-- what is left to write gives what all gives
abbrev pub invariant-loop-place : goal.invariant-loop-place
invariant-loop-place l = record {
  below : l.place ≤ length l.form.body + 1;
  wrote : wrote (text_of (drop l.place l.form.body)) (page l.at l.room) ≡ wrote (text_of l.form.body) (page l.fn.at l.fn.room);
}

-- the items that are left
abbrev pub decreases-loop-place : goal.decreases-loop-place
decreases-loop-place l = length l.form.body + 1 - l.place
