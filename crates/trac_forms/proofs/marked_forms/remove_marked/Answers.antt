use Rattle.trac_forms.proofs.Imports.{Part, ◌≡◌, ◌+◌, ◌<◌, ◌≤◌, length, true, false, sym, ap, ◌∙◌, arith, ◌==◌, form_at, is_marked, mark, forms_in}
use Rattle.trac_forms.proofs.Sweeping.{swept-name, swept-body, swept-pointer, swept-end, swept-more, swept-gone, swept-first}
use Rattle.trac_forms.proofs.marked_forms.remove_marked.Goals.{then-form, else-form}
use Rattle.trac_forms.proofs.marked_forms.remove_marked.Goals as goal
use Rattle.trac_forms.proofs.marked_forms.remove_marked.Goals.{After-tested_heads-form}

-- the sizes of the form that is looked at, and where it ends
less : (c : After-tested_heads-form) → c.loop-form._form < length (forms_in c.args.space.now.store)
less c = omega (arith, c.loop-form-test.true, c.requires.forms.count_is)

name : (c : After-tested_heads-form) → c.tested_heads-form.result.name ≡ length (form_at (forms_in c.args.space.now.store) c.loop-form._form).name
name c = c.tested_heads-form.ensures.name ∙ swept-name c.loop-form.invariant c.requires.forms.forms.whole (less c)

body : (c : After-tested_heads-form) → c.tested_heads-form.result.body ≡ length (form_at (forms_in c.args.space.now.store) c.loop-form._form).body
body c = c.tested_heads-form.ensures.body ∙ swept-body c.loop-form.invariant c.requires.forms.forms.whole (less c)

end : (c : After-tested_heads-form) → c.loop-form.from + 3 + c.tested_heads-form.result.name + c.tested_heads-form.result.body ≤ length c.loop-form.space.store
end c = omega (arith, swept-end c.loop-form.invariant c.requires.forms.forms.whole (less c), name c, body c)

pub tested_heads-form-requires : goal.tested_heads-form-requires
tested_heads-form-requires c =
    omega (arith, swept-end c.loop-form.invariant c.requires.forms.forms.whole (omega (arith, c.loop-form-test.true, c.requires.forms.count_is)))

pub overflow_add-end : goal.overflow_add-end
overflow_add-end c = omega (arith, end (goal.at.overflow_add-end c).After-tested_heads-form, c.loop-form.invariant.len, c.requires.forms.forms.bounded)

pub overflow_add-end-in-loop-form : goal.overflow_add-end-in-loop-form
overflow_add-end-in-loop-form c = omega (arith, end (goal.at.overflow_add-end-in-loop-form c).After-tested_heads-form, c.loop-form.invariant.len, c.requires.forms.forms.bounded)

pub overflow_add-end-in-loop-form-2 : goal.overflow_add-end-in-loop-form-2
overflow_add-end-in-loop-form-2 c = omega (arith, end (goal.at.overflow_add-end-in-loop-form-2 c).After-tested_heads-form, c.loop-form.invariant.len, c.requires.forms.forms.bounded)

pub move_gap-gap-requires-clause-within : goal.move_gap-gap-requires-clause-within
move_gap-gap-requires-clause-within c = omega (arith, end (goal.at.move_gap-gap-requires-clause-within c).After-tested_heads-form)

pub loop-form-preserved : goal.loop-form-preserved
loop-form-preserved c =
    let i = c.loop-form.invariant in
    let k = (goal.at.loop-form-preserved c).After-tested_heads-form in
    let pointer = c.tested_heads-form.ensures.pointer ∙ swept-pointer i c.requires.forms.forms.whole (less k) in
    let end = c.loop-form.from + 3 + c.tested_heads-form.result.name + c.tested_heads-form.result.body in
    let form = form_at (forms_in c.args.space.now.store) c.loop-form._form in
    let ends : end ≡ c.loop-form.from + (3 + length form.name + length form.body) = omega (arith, name k, body k) in
    elim c.if-form.branch [
      | then-form w ↦
          let marked : is_marked form ≡ true = ap (λ p. p == mark) (sym pointer ∙ w.if-form.true) in
          let begin = ap (λ (g : Part). g.from) w.gap-is ∙ w.move_gap-gap.ensures.begin in
          let stop = ap (λ (g : Part). g.to) w.gap-is ∙ w.move_gap-gap.ensures.end in
          rw (w.space-is, w.kept-is, begin, stop) (swept-gone i c.requires.forms.forms.whole (less k) end ends w.move_gap-gap.new.space marked w.move_gap-gap.ensures.moved)
      | else-form w ↦
          let none_before : is_marked form ≡ false = grind (arith, pointer, w.if-form.false) in
          rw (w.space-is, w.kept-is, w.gap-is) (swept-more i c.requires.forms.forms.whole (less k) end ends none_before)
    ]

pub loop-form-init : goal.loop-form-init
loop-form-init c = swept-first c.args.space.now c.args.first.number c.args.first.start c.requires.forms.forms.whole c.requires.first
