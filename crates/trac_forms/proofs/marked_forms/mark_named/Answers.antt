use Rattle.trac_forms.proofs.Imports.{sym, ap, ◌∙◌, arith, subst, part_text, flat_forms, IsMarkedFrom, forms_in}
use Rattle.trac_store.proofs.Places.{stands}
use Rattle.trac_forms.proofs.Removals.{mark-none, marked-lists, marked-read, marked-from}
use Rattle.trac_forms.proofs.marked_forms.mark_named.Goals as goal

pub overflow_add-form : goal.overflow_add-form
overflow_add-form c =
    let f = stands _ _ _ _ c.requires.marking.formed.kept.has.forms.whole (rw c.new.ensures at c.in-Some.ensures).named.within (rw c.new.ensures at c.in-Some.ensures).start_is in
    omega (arith, f.end, c.requires.marking.formed.kept.has.forms.bounded)

pub write_store-requires-clause-within : goal.write_store-requires-clause-within
write_store-requires-clause-within c =
    let f = stands _ _ _ _ c.requires.marking.formed.kept.has.forms.whole (rw c.new.ensures at c.in-Some.ensures).named.within (rw c.new.ensures at c.in-Some.ensures).start_is in
    omega (arith, f.end)

pub returns-in-Some-clause-marked : goal.returns-in-Some-clause-marked
returns-in-Some-clause-marked c =
    (marked-lists c.requires.marking.formed (rw c.new.ensures at c.in-Some.ensures) c.write_store.new.self c.write_store.ensures).0

pub returns-in-None-clause-marked : goal.returns-in-None-clause-marked
returns-in-None-clause-marked c =
    let s = c.args.space.now in
    let none = mark-none (part_text s.neutral c.args.name.from c.args.name.to) (forms_in s.store) (rw c.new.ensures at c.in-None.ensures) in
    ap (λ cells. record s { store = cells }) (sym c.requires.marking.formed.kept.has.forms.whole ∙ ap flat_forms (sym none))

pub returns-in-Some-clause-marking : goal.returns-in-Some-clause-marking
returns-in-Some-clause-marking c =
    let s = c.args.space.now in
    let found = (rw c.new.ensures at c.in-Some.ensures) in
    let both = marked-lists c.requires.marking.formed found c.write_store.new.self c.write_store.ensures in
    let read = marked-read s c.write_store.new.self c.in-Some.form.number (part_text s.neutral c.args.name.from c.args.name.to) c.requires.marking.formed.distinct found.named both.0 in
    let e = c.earlier.ensures in
    record {
      formed = both.1;
      first = subst (λ fs. IsMarkedFrom fs c.earlier.result.number c.earlier.result.start) (sym read)
          (marked-from (forms_in s.store) c.args.places.first c.in-Some.form c.earlier.result c.requires.marking.first (record { within = found.named.within; start_is = found.start_is }) (record { one = e.one; first = e.first; second = e.second }));
    }
