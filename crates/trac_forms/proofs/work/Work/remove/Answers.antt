use Rattle.trac_forms.proofs.Imports.{◌≡◌, ◌-◌, length, refl, sym, ap, ◌∙◌, arith, remove, length-remove, Lists, flat_forms, forms_in, start_of, ◌+◌, IsStore-remove, cells-remove, Stands, stands, removed-lists}
use Rattle.trac_forms.proofs.Strings.{CanStand, used-stored, restored, shown-restored}
use Rattle.trac_forms.proofs.work.Work.remove.Goals as goal
use Rattle.trac_forms.proofs.work.Work.remove.Goals.{After-unindex, After-remove_store}

-- the form still stands in the store, once the index is without it
here : (c : After-unindex) → Stands (forms_in c.self.inside.space.store) c.unindex.new.space.store c.args.form.number c.args.form.start
here c =
    let same = ap (λ (w : Lists). w.store) c.unindex.ensures.same in
    stands _ _ _ _ (c.self.invariant.forms.whole ∙ sym same) (rw (← c.self.view_is) at c.requires.form).within (rw (← c.self.view_is) at c.requires.form).start_is

-- the lists without it
gone : (c : After-remove_store) → c.remove_store.new.self ≡ record c.self.inside.space { store = flat_forms (remove (forms_in c.self.inside.space.store) c.args.form.number); index_area = c.unindex.new.space.index_area }
gone c =
    let s = c.self.inside.space in
    let rest = flat_forms (remove (forms_in s.store) c.args.form.number) in
    removed-lists c.unindex.new.space c.remove_store.new.self (forms_in s.store) c.args.form.number c.args.form.start c.end_of-end.result (here c.before.before.before) (c.end_of-end.ensures.next ∙ ap (λ (w : Lists). start_of (forms_in w.store) (c.args.form.number + 1)) c.unindex.ensures.same) c.remove_store.ensures
    ∙ ap (λ (w : Lists). record w { store = rest }) c.unindex.ensures.same

pub invariant_of-self : goal.invariant_of-self
invariant_of-self c =
    let s = c.self.inside.space in
    let h = c.self.invariant in
    let forms = forms_in s.store in
    let k = c.args.form.number in
    let within = (rw (← c.self.view_is) at c.requires.form).within in
    let fewer = length-remove forms k within in
    let can : CanStand s c.unindex.new.space.index_area (remove forms k) = record {
      index = c.unindex.ensures.index;
      distinct = IsStore-remove forms k h.sound.forms;
      room = omega (arith, ap length h.forms.whole, cells-remove forms k within, used-stored s h.forms.whole, h.sound.fits);
    } in
    restored h _ c.remove_store.new.self (remove forms k) (c.self.inside.count - 1) (record { number = 0; start = 0 }) can (gone (goal.at.invariant_of-self c).After-remove_store) (omega (arith, h.count_is, fewer)) (record { within = omega arith; start_is = refl })

pub returns-clause-gone : goal.returns-clause-gone
returns-clause-gone c =
    rw (← c.self.view_is) (shown-restored _ c.self.inside.space _ (remove (forms_in c.self.inside.space.store) c.args.form.number) (gone (goal.at.returns-clause-gone c).After-remove_store))

pub returns-clause-sound : goal.returns-clause-sound
returns-clause-sound c = (invariant_of-self c).sound
