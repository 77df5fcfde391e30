use Rattle.std.proofs.Common.{◌≡◌, ◌++◌, ◌-◌, None}
use Rattle.trac_views.specs.Largest.{largest_text}
use Rattle.trac_views.proofs.largest.push_largest_forms.Given as goal

-- the lines so far and those of the forms that are left are the whole
abbrev pub invariant-loop-told : goal.invariant-loop-told
invariant-loop-told g l =
    l.lines.items ++ largest_text l.width (5 - l._told) l.last l.machine.memory.forms
    ≡ l.initial.lines.items ++ largest_text l.width 5 None l.machine.memory.forms
