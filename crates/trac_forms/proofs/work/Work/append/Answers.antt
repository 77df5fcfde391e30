use Rattle.trac_forms.proofs.Imports.{◌+◌, ◌++◌, ◌∷◌, [], ◌∙◌, ◌≤◌, length, ap, arith, length_push, Form, form_cells, Lists, new_form, forms_in, count-le, length-new_form}
use Rattle.trac_space.specs.Lists as lists
use Rattle.trac_forms.proofs.Strings.{used-stored, shown-restored}
use Rattle.trac_forms.proofs.StoreChanges.{added, added-forms, added-indexed, added-stored}
use Rattle.trac_forms.proofs.work.Work.append.Goals as goal
use Rattle.trac_forms.proofs.work.Work.append.Goals.{After-store_form}

-- the new form
abbrev form : After-store_form → Form
form c = new_form c.self.inside.space.neutral c.args.name.from c.args.name.to c.args.text.from c.args.text.to

-- it fits
fits : (c : After-store_form) → lists.used c.self.inside.space + form_cells (form c) ≤ c.self.inside.space.room
fits c =
    let s = c.self.inside.space in
    let name_in = rw (← c.self.view_is) at c.requires.parts.name_part.within in
    let text_in = rw (← c.self.view_is) at c.requires.parts.text_part.within in
    let room = rw (← c.self.view_is) at c.requires.room in
    let size = length-new_form s.neutral c.args.name.from c.args.name.to c.args.text.from c.args.text.to name_in text_in in
    omega (arith, used-stored s c.self.invariant.forms.whole, room, size)

pub store_form-requires-clause-room : goal.store_form-requires-clause-room
store_form-requires-clause-room c =
    let s = c.self.inside.space in
    omega (arith, used-stored s c.self.invariant.forms.whole, rw (← c.self.view_is) at c.requires.room)

pub index_last-requires-clause-state : goal.index_last-requires-clause-state
index_last-requires-clause-state c =
    let k = (goal.at.index_last-requires-clause-state c).After-store_form in
    added-indexed c.self.invariant (form k) c.store_form.new.space c.store_form.ensures.stored c.store_len.result c.store_len.ensures (fits k) c.store_form.ensures.kept

pub index_last-requires-clause-last : goal.index_last-requires-clause-last
index_last-requires-clause-last c =
    let k = (goal.at.index_last-requires-clause-last c).After-store_form in
    let s = c.self.inside.space in
    let read = added-forms s c.store_form.new.space (form k) c.self.invariant.forms.whole c.store_form.ensures.stored in
    omega (arith, ap length read, length_push (forms_in s.store) (form k), c.self.invariant.count_is)

pub overflow_add-self : goal.overflow_add-self
overflow_add-self c =
    let s = c.self.inside.space in
    omega (arith, c.self.invariant.count_is, count-le (forms_in s.store), ap length c.self.invariant.forms.whole, c.self.invariant.forms.bounded)

pub invariant_of-self : goal.invariant_of-self
invariant_of-self c =
    let k = (goal.at.invariant_of-self c).After-store_form in
    added-stored c.self.invariant (form k) c.store_form.new.space c.store_form.ensures.stored c.store_len.result c.store_len.ensures c.index_last.new.space (record { pointer = (omega arith); fits = (fits k); unnamed = (rw (← c.self.view_is) at c.requires.unnamed) }) c.index_last.ensures.index c.index_last.ensures.same

pub returns-clause-last : goal.returns-clause-last
returns-clause-last c =
    let k = (goal.at.returns-clause-last c).After-store_form in
    let s = c.self.inside.space in
    let put = added s c.store_form.new.space (form k) c.self.invariant.forms.whole c.store_form.ensures.stored in
    rw (← c.self.view_is) (shown-restored _ s _ (forms_in s.store ++ form k ∷ []) (c.index_last.ensures.same ∙ ap (λ (w : Lists). record w { index_area = c.index_last.new.space.index_area }) put))

pub returns-clause-sound : goal.returns-clause-sound
returns-clause-sound c = (invariant_of-self c).sound
