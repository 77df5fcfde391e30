use Rattle.trac_functions.proofs.Imports.{body_at, gap_at, NonePasses}
use Rattle.trac_functions.proofs.form_parts.gap_or.Given as goal

-- no gap was passed
abbrev pub invariant-loop-place : goal.invariant-loop-place
invariant-loop-place l = NonePasses (gap_at (body_at l.work.forms l.form.0)) l.from l.place
