use Rattle.trac_forms.proofs.Imports.{◌++◌, ◌∷◌, [], ◌∙◌, length, ap, arith, length_push, Lists, forms_in, count-le, given}
use Rattle.trac_forms.proofs.Strings.{used-stored, shown-restored}
use Rattle.trac_forms.proofs.StoreChanges.{added, added-forms, added-indexed, added-stored}
use Rattle.trac_forms.proofs.work.Work.append_given.Goals as goal

pub store_given-requires-clause-room : goal.store_given-requires-clause-room
store_given-requires-clause-room g c =
    omega (arith, used-stored c.self.inside.space c.self.invariant.forms.whole, rw (← c.self.view_is) at c.requires.room)

pub index_last-requires-clause-state : goal.index_last-requires-clause-state
index_last-requires-clause-state g c =
    let s = c.self.inside.space in
    let form = given c.args.name.now (g.B.Body.items c.args.body.now) c.args.pointer in
    let room = rw (← c.self.view_is) at c.requires.room in
    added-indexed c.self.invariant form c.store_given.new.space c.store_given.ensures.stored c.store_len.result c.store_len.ensures (omega (arith, used-stored s c.self.invariant.forms.whole, room, c.requires.len)) c.store_given.ensures.kept

pub index_last-requires-clause-last : goal.index_last-requires-clause-last
index_last-requires-clause-last g c =
    let s = c.self.inside.space in
    let form = given c.args.name.now (g.B.Body.items c.args.body.now) c.args.pointer in
    let read = added-forms s c.store_given.new.space form c.self.invariant.forms.whole c.store_given.ensures.stored in
    omega (arith, ap length read, length_push (forms_in s.store) form, c.self.invariant.count_is)

pub overflow_add-self : goal.overflow_add-self
overflow_add-self g c =
    let s = c.self.inside.space in
    omega (arith, c.self.invariant.count_is, count-le (forms_in s.store), ap length c.self.invariant.forms.whole, c.self.invariant.forms.bounded)

pub invariant_of-self : goal.invariant_of-self
invariant_of-self g c =
    let s = c.self.inside.space in
    let form = given c.args.name.now (g.B.Body.items c.args.body.now) c.args.pointer in
    let room = rw (← c.self.view_is) at c.requires.room in
    added-stored c.self.invariant form c.store_given.new.space c.store_given.ensures.stored c.store_len.result c.store_len.ensures c.index_last.new.space (record { pointer = (omega (arith, c.requires.len, c.requires.pointer)); fits = (omega (arith, used-stored s c.self.invariant.forms.whole, room, c.requires.len)); unnamed = (rw (← c.self.view_is) at c.requires.unnamed) }) c.index_last.ensures.index c.index_last.ensures.same

pub returns-clause-last : goal.returns-clause-last
returns-clause-last g c =
    let s = c.self.inside.space in
    let form = given c.args.name.now (g.B.Body.items c.args.body.now) c.args.pointer in
    let put = added s c.store_given.new.space form c.self.invariant.forms.whole c.store_given.ensures.stored in
    rw (← c.self.view_is) (shown-restored _ s _ (forms_in s.store ++ form ∷ []) (c.index_last.ensures.same ∙ ap (λ (w : Lists). record w { index_area = c.index_last.new.space.index_area }) put))

pub returns-clause-sound : goal.returns-clause-sound
returns-clause-sound g c = (invariant_of-self g c).sound
