use Rattle.trac_functions.proofs.Imports.{body_at}
use Rattle.trac_functions.proofs.TakenItems.{Backward}
use Rattle.trac_functions.proofs.form_parts.place_before.Given as goal

-- `_taken` characters were taken backward, and `place` is before them
abbrev pub invariant-loop-taken : goal.invariant-loop-taken
invariant-loop-taken l = Backward (body_at l.work.forms l.form.0) l.to l._taken l.place
