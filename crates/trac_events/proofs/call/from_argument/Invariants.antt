use Rattle.trac_events.proofs.Imports.{◌≡◌, ◌-◌, from_argument}
use Rattle.trac_events.proofs.call.from_argument.Given as goal

-- the argument wanted is that many commas on
abbrev pub invariant-loop-before : goal.invariant-loop-before
invariant-loop-before l = from_argument l.rest (l.k - l._before) ≡ from_argument l.arguments l.k
