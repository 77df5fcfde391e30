use Rattle.std.proofs.Common.{◌≡◌, take}
use Rattle.trac_warnings.proofs.gaps.body_of.Given as goal

-- the items so far
abbrev pub invariant-loop-place : goal.invariant-loop-place
invariant-loop-place g l = l.items.items ≡ take l.place l.form.body
