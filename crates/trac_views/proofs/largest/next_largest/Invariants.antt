use Rattle.std.proofs.Common.{◌≡◌, None}
use Rattle.trac_views.specs.Largest.{next_largest}
use Rattle.trac_views.proofs.largest.next_largest.Given as goal

-- what is found among the forms that are left is what is found
abbrev pub invariant-loop-form : goal.invariant-loop-form
invariant-loop-form l = next_largest l.last l.place l.form-iterator l.found ≡ next_largest l.last 0 l.fn.forms None
