use Rattle.std.proofs.Common.{◌-◌}
use Rattle.trac_image.specs.Fitting.{AreDistinct}
use Rattle.trac_image.specs.Reading.{forms_in}
use Rattle.trac_image.proofs.fitting.are_distinct.Given as goal

-- what is left decides of all
abbrev pub invariant-loop-i : goal.invariant-loop-i
invariant-loop-i l = record {
  passed : AreDistinct (forms_in (l.count - l.i) l.rest) → AreDistinct (forms_in l.count l.forms);
  whole : AreDistinct (forms_in l.count l.forms) → AreDistinct (forms_in (l.count - l.i) l.rest);
}
