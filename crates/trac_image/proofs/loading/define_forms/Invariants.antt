use Rattle.std.proofs.Common.{◌++◌, ◌-◌, ◌≡◌}
use Rattle.trac_core.specs.Changing.{with_forms}
use Rattle.trac_image.specs.Fitting.{AreFit}
use Rattle.trac_image.specs.Reading.{forms_in}
use Rattle.trac_language.specs.State.{size}
use Rattle.trac_image.proofs.loading.define_forms.Given as goal

-- what was defined and what is left are all forms, and there is room for what is left
abbrev pub invariant-loop-i : goal.invariant-loop-i
invariant-loop-i l = record {
  all : l.machine.memory.forms ++ forms_in (l.count - l.i) l.rest ≡ forms_in l.count l.forms;
  same : l.machine ≡ with_forms l.machine.memory.forms l.fn.machine;
  fit : AreFit (l.count - l.i) (l.machine.room - size l.machine.memory) l.rest;
}
