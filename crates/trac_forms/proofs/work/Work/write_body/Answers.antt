use Rattle.trac_forms.proofs.Imports.{◌≡◌, ◌+◌, ◌-◌, ◌++◌, ◌∙◌, length, take, drop, set, slice_range, sym, ap, arith, length-between, length-set, Head, Lists, form_at, flat_forms, forms_in, items_of, part_text, IsStored}
use Rattle.trac_store.proofs.Segments.{BodyPlace, written}
use Rattle.trac_forms.proofs.Strings.{shown-restored}
use Rattle.trac_forms.proofs.StoreChanges.{BodyWritten, rewritten-stored, written-long}
use Rattle.trac_forms.proofs.work.Work.write_body.Goals as goal
use Rattle.trac_forms.proofs.work.Work.write_body.Goals.{After-write_part, After-write_store-2}

-- the store is as long as it was
long : (c : After-write_part) → length c.write_part.new.self.store ≡ length c.self.inside.space.store
long c =
    written-long c.self.inside.space c.write_part.new.self (c.args.form.start + 3 + c.heads_of-heads.result.name) c.args.text.from c.args.text.to (rw (← c.self.view_is) at c.requires.text_part.within) (omega (arith, c.heads_of-heads.ensures, rw (← c.self.view_is) at c.requires.same)) c.write_part.ensures

pub write_store-requires-clause-within : goal.write_store-requires-clause-within
write_store-requires-clause-within c =
    omega (arith, long (goal.at.write_store-requires-clause-within c).After-write_part, c.heads_of-heads.ensures.within)

pub write_store-requires-2-clause-within : goal.write_store-requires-2-clause-within
write_store-requires-2-clause-within c =
    omega (arith, long (goal.at.write_store-requires-2-clause-within c).After-write_part, c.heads_of-heads.ensures.within, ap (λ (w : Lists). length w.store) c.write_store.ensures, length-set c.write_part.new.self.store (c.args.form.start + 1) (Head (c.args.text.to - c.args.text.from)))

-- where the form and its body stand
abbrev place : (c : After-write_store-2) → BodyPlace (forms_in c.self.inside.space.store) c.args.form.number
place c =
    let form = rw (← c.self.view_is) at c.requires.form in
    let from = c.args.form.start + 3 + c.heads_of-heads.result.name in
    record {
      start = c.args.form.start;
      from = from;
      to = from + (c.args.text.to - c.args.text.from);
      within = form.within;
      start_is = form.start_is;
      from_is = ap (λ n. c.args.form.start + 3 + n) c.heads_of-heads.ensures.name;
      to_is = ap (λ n. from + n) (rw (← c.self.view_is) at c.requires.same);
    }

-- the form has its new body
done : (c : After-write_store-2) → (c.write_store-2.new.self ≡ record c.self.inside.space { store = flat_forms (set (forms_in c.self.inside.space.store) c.args.form.number (record (form_at (forms_in c.self.inside.space.store) c.args.form.number) { body = items_of (part_text c.self.inside.space.neutral c.args.text.from c.args.text.to); pointer = 0 })) }) × IsStored c.write_store-2.new.self c.self.inside.count c.args.form.number c.args.form.start
done c =
    let s = c.self.inside.space in
    let v = c.write_store-2.new.self in
    let start = c.args.form.start in
    let from = start + 3 + c.heads_of-heads.result.name in
    let text = c.args.text in
    let n = text.to - text.from in
    let part = rw (← c.self.view_is) at c.requires.text_part in
    let cells = slice_range s.neutral text.from text.to in
    let store = take from s.store ++ cells ++ drop (from + n) s.store in
    let headed = written s c.write_part.new.self c.write_store.new.self store (start + 1) (Head n) c.write_part.ensures c.write_store.ensures in
    let both = written s c.write_store.new.self v (set store (start + 1) (Head n)) (start + 2) (Head 0) headed c.write_store-2.ensures in
    let len : n ≡ from + n - from = omega arith in
    let wrote : BodyWritten s v (place c) cells = record {
      end = from + n;
      end_is = ap (λ k. from + k) (sym (length-between s.neutral text.from text.to part.within));
      within = omega arith;
      written = both ∙ ap (λ k. record s { store = set (set store (start + 1) (Head k)) (start + 2) (Head 0) }) len;
    } in
    rewritten-stored c.self.invariant (place c) v text part (rw (← c.self.view_is) at c.requires.same) wrote

pub invariant_of-self : goal.invariant_of-self
invariant_of-self c = (done (goal.at.invariant_of-self c).After-write_store-2).1

pub returns-clause-written : goal.returns-clause-written
returns-clause-written c =
    rw (← c.self.view_is) (shown-restored _ c.self.inside.space _ _ (done (goal.at.returns-clause-written c).After-write_store-2).0)

pub returns-clause-sound : goal.returns-clause-sound
returns-clause-sound c = (invariant_of-self c).sound
