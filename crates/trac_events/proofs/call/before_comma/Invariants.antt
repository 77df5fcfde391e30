use Rattle.trac_events.proofs.Imports.{◌≡◌, ◌+◌, drop, position_or_len, is_comma}
use Rattle.trac_events.proofs.call.before_comma.Given as goal

-- no comma mark stands among the cells so far
abbrev pub invariant-loop-place : goal.invariant-loop-place
invariant-loop-place l = position_or_len is_comma l.cells ≡ l.place + position_or_len is_comma (drop l.place l.cells)
