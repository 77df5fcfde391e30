use Rattle.std.proofs.Common.{◌≡◌, ◌≤◌, ◌-◌, drop, length}
use Rattle.trac_warnings.specs.Gaps.{highest_gap}
use Rattle.trac_warnings.proofs.gaps.highest_gap.Given as goal

-- the highest ordinal so far, and those of the items that are left, give the highest of all
abbrev pub invariant-loop-place : goal.invariant-loop-place
invariant-loop-place l =
    record {
      within : l.place ≤ length l.form.body;
      highest : highest_gap l.highest (drop l.place l.form.body) ≡ highest_gap 0 l.form.body;
    }

-- the items that are left
abbrev pub decreases-loop-place : goal.decreases-loop-place
decreases-loop-place l = length l.form.body - l.place
