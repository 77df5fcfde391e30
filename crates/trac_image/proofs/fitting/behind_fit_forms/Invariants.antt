use Rattle.std.proofs.Common.{◌-◌, ◌≡◌}
use Rattle.trac_image.specs.Fitting.{AreFit}
use Rattle.trac_image.specs.Reading.{behind_forms}
use Rattle.trac_image.proofs.fitting.behind_fit_forms.Given as goal

-- what is left decides of all
abbrev pub invariant-loop-i : goal.invariant-loop-i
invariant-loop-i l = record {
  passed : AreFit (l.count - l.i) l.left l.rest → AreFit l.count l.room l.forms;
  whole : AreFit l.count l.room l.forms → AreFit (l.count - l.i) l.left l.rest;
  behind : behind_forms (l.count - l.i) l.rest ≡ behind_forms l.count l.forms;
}
