use Rattle.std.proofs.Common.{◌-◌}
use Rattle.trac_language.specs.Store.{NoneNamed}
use Rattle.trac_image.specs.Reading.{forms_in}
use Rattle.trac_image.proofs.fitting.is_new.Given as goal

-- what is left decides of all
abbrev pub invariant-loop-i : goal.invariant-loop-i
invariant-loop-i l = record {
  passed : NoneNamed l.name (forms_in (l.count - l.i) l.rest) → NoneNamed l.name (forms_in l.count l.forms);
  whole : NoneNamed l.name (forms_in l.count l.forms) → NoneNamed l.name (forms_in (l.count - l.i) l.rest);
}
