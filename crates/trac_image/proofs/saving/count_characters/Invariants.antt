use Rattle.trac_image.proofs.Imports.{◌≡◌, ◌≤◌, ◌+◌, ◌-◌, drop, length, text_of}
use Rattle.trac_image.proofs.saving.count_characters.Given as goal

-- what is left to count gives what all gives
abbrev pub invariant-loop-place : goal.invariant-loop-place
invariant-loop-place l = record {
  below : l.place ≤ length l.form.body + 1;
  counted : l.count + length (text_of (drop l.place l.form.body)) ≡ length (text_of l.form.body);
}

-- the items that are left
abbrev pub decreases-loop-place : goal.decreases-loop-place
decreases-loop-place l = length l.form.body + 1 - l.place
