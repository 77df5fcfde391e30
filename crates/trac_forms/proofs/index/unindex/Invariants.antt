use Rattle.trac_forms.proofs.Imports.{◌≡◌, ◌-◌, length, forms_in, IsIndexBut}
use Rattle.trac_forms.proofs.FormTables.{names_now, starts_now}
use Rattle.trac_forms.proofs.index.unindex.Given as goal

-- the forms so far have come forward
abbrev pub invariant-loop-next : goal.invariant-loop-next
invariant-loop-next l =
    let forms = forms_in l.fn.space.store in record {
      same : l.space ≡ record l.fn.space { index_area = l.space.index_area };
      index : IsIndexBut l.space.index_area (length forms) (l.next - 1) (names_now forms l.fn.form.number (l.next - 1)) (starts_now forms l.fn.form.number (l.next - 1));
    }
