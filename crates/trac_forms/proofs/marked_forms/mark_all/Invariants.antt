use Rattle.trac_forms.proofs.Imports.{◌≡◌, ◌+◌, ◌-◌, AreParted, texts_between, AreMarking, with_marks, forms_in}
use Rattle.trac_forms.proofs.marked_forms.mark_all.Given as goal

-- the forms with the marks so far, those of the names that are left marked too, are the forms with all marks
abbrev pub invariant-loop-from : goal.invariant-loop-from
invariant-loop-from l = record {
  left : AreParted l.space.neutral l.from l.names.to;
  marking : AreMarking l.space l.count l.places.last l.places.first;
  same : l.space ≡ record l.fn.space { store = l.space.store; index_area = l.space.index_area };
  marks : with_marks (texts_between l.space.neutral l.from l.names.to) (forms_in l.space.store) ≡ with_marks (texts_between l.fn.space.neutral l.fn.names.from l.fn.names.to) (forms_in l.fn.space.store);
}

-- the cells that are left
abbrev pub decreases-loop-from : goal.decreases-loop-from
decreases-loop-from l = l.names.to + 1 - l.from
