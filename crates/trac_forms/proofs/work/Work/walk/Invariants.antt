use Rattle.trac_forms.proofs.Imports.{◌≡◌, forms_in, start_of}
use Rattle.trac_forms.proofs.work.Work.walk.Given as goal

abbrev pub invariant-loop-number : goal.invariant-loop-number
invariant-loop-number l = l.start ≡ start_of (forms_in l.space.store) l.number
