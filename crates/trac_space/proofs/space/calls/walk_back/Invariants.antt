use Rattle.trac_space.proofs.Imports.{ℕ, ◌≤◌, length, take, HasCallsUpTo}
use Rattle.trac_space.proofs.space.calls.walk_back.Given as goal

abbrev pub invariant-loop-behind : goal.invariant-loop-behind
invariant-loop-behind l = (bound : ℕ) × (l.end ≤ bound) × (bound ≤ length l.neutral) × HasCallsUpTo (take bound l.neutral) l.behind

abbrev pub decreases-loop-behind : goal.decreases-loop-behind
decreases-loop-behind l = l.behind
