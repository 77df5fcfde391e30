use Rattle.std.proofs.Common.{◌≡◌, ◌++◌}
use Rattle.std.specs.List.{flat_map}
use Rattle.trac_views.specs.CallLines.{form_line}
use Rattle.trac_views.proofs.forms.push_forms.Given as goal

-- the lines so far and those of the forms that are left are the whole
abbrev pub invariant-loop-form : goal.invariant-loop-form
invariant-loop-form g l =
    l.lines.items ++ flat_map (form_line l.width) l.form-iterator
    ≡ l.initial.lines.items ++ flat_map (form_line l.width) l.fn.forms
