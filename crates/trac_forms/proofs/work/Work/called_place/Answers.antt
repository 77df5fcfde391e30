use Rattle.trac_forms.proofs.Imports.{arith, AreItems, items}
use Rattle.trac_forms.proofs.work.Work.called_place.Goals as goal
use Rattle.trac_forms.proofs.work.Work.called_place.Goals.{After-heads_of-heads}

called : (c : After-heads_of-heads) → AreItems c.self.inside.space c.args.form c.heads_of-heads.result
called c =
    let heads = c.heads_of-heads.ensures in
    items _ c.args.form c.heads_of-heads.result c.self.invariant.forms.whole c.self.invariant.sound.forms (rw (← c.self.view_is) at c.requires.form) heads.name heads.body heads.pointer

pub overflow_add-place : goal.overflow_add-place
overflow_add-place c = omega (arith, called (goal.at.overflow_add-place c).After-heads_of-heads)

pub overflow_add-place-2 : goal.overflow_add-place-2
overflow_add-place-2 c = omega (arith, called (goal.at.overflow_add-place-2 c).After-heads_of-heads)

pub overflow_add-result : goal.overflow_add-result
overflow_add-result c = omega (arith, called (goal.at.overflow_add-result c).After-heads_of-heads)

pub overflow_add-result-2 : goal.overflow_add-result-2
overflow_add-result-2 c = omega (arith, called (goal.at.overflow_add-result-2 c).After-heads_of-heads)

pub returns : goal.returns
returns c =
    let i = called (goal.at.returns c).After-heads_of-heads in
    rw (← c.self.view_is, c.self.invariant.forms.whole) (record { order = omega (arith, i.order); within = i.behind; items = i.are })
