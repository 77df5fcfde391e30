use Rattle.trac_forms.proofs.Imports.{◌≡◌, take, start_of, NoneNamed}
use Rattle.trac_forms.proofs.work.Work.located_by_name.Given as goal

-- the forms so far don't have the name
abbrev pub invariant-loop-number : goal.invariant-loop-number
invariant-loop-number l = record {
  begins : l.start ≡ start_of l.self.forms l.number;
  none : NoneNamed l.name (take l.number l.self.forms);
}
