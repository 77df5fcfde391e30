use Rattle.std.proofs.Common.{◌≡◌, ◌++◌}
use Rattle.std.specs.List.{flat_map}
use Rattle.trac_views.specs.CallLines.{form_deleted}
use Rattle.trac_views.proofs.deleted.push_all.Given as goal

-- the text so far and that of the forms that are left are the whole
abbrev pub invariant-loop-form : goal.invariant-loop-form
invariant-loop-form g l =
    l.line.items ++ flat_map (form_deleted l.width) l.form-iterator
    ≡ l.initial.line.items ++ flat_map (form_deleted l.width) l.fn.forms
