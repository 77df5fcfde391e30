use Rattle.trac_forms.proofs.Sweeping.{IsSweptTo}
use Rattle.trac_forms.proofs.marked_forms.remove_marked.Given as goal

abbrev pub invariant-loop-form : goal.invariant-loop-form
invariant-loop-form l = IsSweptTo l.fn.space l.space l._form l.gap.from l.gap.to l.from l.kept
