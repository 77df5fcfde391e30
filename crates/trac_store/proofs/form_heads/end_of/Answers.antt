use Rattle.trac_store.proofs.Imports.{arith, forms_in}
use Rattle.trac_store.proofs.Places.{Stands, stands}
use Rattle.trac_store.proofs.form_heads.end_of.Goals as goal
use Rattle.trac_store.proofs.form_heads.end_of.Goals.{Start}

-- how the form stands in the store
here : (c : Start) → Stands (forms_in c.args.space.now.store) c.args.space.now.store c.args.form.number c.args.form.start
here c = stands _ _ _ _ c.requires.forms.whole c.requires.form.within c.requires.form.start_is

pub overflow_add-form : goal.overflow_add-form
overflow_add-form c = omega (arith, (here (goal.at.overflow_add-form c).Start).end, c.requires.forms.bounded)

pub overflow_add-result : goal.overflow_add-result
overflow_add-result c = omega (arith, (here (goal.at.overflow_add-result c).Start).end, c.requires.forms.bounded)

pub overflow_add-result-2 : goal.overflow_add-result-2
overflow_add-result-2 c =
    let f = here (goal.at.overflow_add-result-2 c).Start in
    omega (arith, f.end, f.name_len, c.head.ensures, c.requires.forms.bounded)

pub overflow_add-result-3 : goal.overflow_add-result-3
overflow_add-result-3 c =
    let f = here (goal.at.overflow_add-result-3 c).Start in
    omega (arith, f.end, f.name_len, f.body_len, c.head.ensures, c.head-2.ensures, c.requires.forms.bounded)

pub returns-clause-next : goal.returns-clause-next
returns-clause-next c =
    let f = here (goal.at.returns-clause-next c).Start in
    omega (arith, f.next, f.name_len, f.body_len, c.head.ensures, c.head-2.ensures)

pub returns-clause-within : goal.returns-clause-within
returns-clause-within c =
    let f = here (goal.at.returns-clause-within c).Start in
    omega (arith, f.end, f.name_len, f.body_len, c.head.ensures, c.head-2.ensures)
