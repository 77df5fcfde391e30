use Rattle.std.proofs.Common.{◌≡◌}
use Rattle.trac_views.specs.Largest.{form_at_text}
use Rattle.trac_views.proofs.largest.push_form_at.Given as goal

-- no line was added yet, and the form is among the forms that are left
abbrev pub invariant-loop-form : goal.invariant-loop-form
invariant-loop-form g l =
    record {
      untold : l.lines.items ≡ l.initial.lines.items;
      left : form_at_text l.width l.sized l.place l.form-iterator ≡ form_at_text l.width l.sized 0 l.fn.forms;
    }
