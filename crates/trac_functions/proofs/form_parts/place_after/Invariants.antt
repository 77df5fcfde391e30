use Rattle.trac_functions.proofs.Imports.{body_at}
use Rattle.trac_functions.proofs.TakenItems.{Forward}
use Rattle.trac_functions.proofs.form_parts.place_after.Given as goal

-- `_taken` characters were taken, and `place` is behind them
abbrev pub invariant-loop-taken : goal.invariant-loop-taken
invariant-loop-taken l = Forward (body_at l.work.forms l.form.0) l.from l._taken l.place
