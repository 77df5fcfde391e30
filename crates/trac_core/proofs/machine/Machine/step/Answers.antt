use Rattle.trac_core.proofs.Imports.{◌<◌, ◌≤◌, ◌+◌, [], length, refl, arith, sym, ap, subst, Contents, used, memory_of, MachineState}
use Rattle.trac_functions.proofs.FlatLemmas.{size-used}
use Rattle.trac_core.proofs.StepsInRow.{tried-passed}
use Rattle.trac_core.proofs.machine.Machine.step.Goals as goal

pub returns-then-is_some-clause-takes : goal.returns-then-is_some-clause-takes
returns-then-is_some-clause-takes g c = λ told.
    rw (← c.self.view_is) ([], record { consumed = refl; few = omega (arith, size-used c.self.inside.meta c.self.inside.work) })

pub returns-then-is_some-clause-limits : goal.returns-then-is_some-clause-limits
returns-then-is_some-clause-limits g c =
    rw (← c.self.view_is)
    (record {
      cells = omega (arith, size-used c.self.inside.meta c.self.inside.work);
      steps = c.self.invariant.0;
      peak = c.self.invariant.1;
    })

pub returns-in_default-clause-answers : goal.returns-in_default-clause-answers
returns-in_default-clause-answers g c = λ not_over told_source told_sink.
    let i = c.self.inside in
    let m : MachineState = record { memory = memory_of i.meta i.work; room = i.work.room; allowance = i.allowance; steps = i.steps; peak = i.peak; fate = i.fate; stops = i.stops } in
    let allowed : i.steps < i.allowance = omega (arith, c.self.invariant.0, c.if-self.false) in
    rw (← c.self.view_is, c.count-in_default.ensures.answer, c.count-in_default.ensures.after, c.scan_once.ensures.keeps.room)
    (tried-passed i.work c.scan_once.new.work c.used-need.result c.in_default.ensures.comes c.self.invariant.2 c.used-need.ensures.value i.meta _ _ m refl refl allowed)

pub returns-in_default-clause-takes : goal.returns-in_default-clause-takes
returns-in_default-clause-takes g c = λ told.
    rw (← c.self.view_is) ([], record { consumed = refl; few = omega (arith, size-used c.self.inside.meta c.self.inside.work) })

pub returns-clause-answers : goal.returns-clause-answers
returns-clause-answers g c = λ not_over told_source told_sink.
    let i = c.self.inside in
    let m : MachineState = record { memory = memory_of i.meta i.work; room = i.work.room; allowance = i.allowance; steps = i.steps; peak = i.peak; fate = i.fate; stops = i.stops } in
    let allowed : i.steps < i.allowance = omega (arith, c.self.invariant.0, c.if-self.false) in
    let same = c.in-Some.ensures.comes.0 in
    rw (← c.self.view_is, c.count-2.ensures.answer, c.count-2.ensures.after, c.perform_next-outcome.ensures.keeps.room, c.scan_once.ensures.keeps.room)
    (c.perform_next-outcome.ensures.tried told_source told_sink m (sym c.scan_once.ensures.keeps.room) (ap (memory_of i.meta) (sym same)) allowed)

pub returns-clause-takes : goal.returns-clause-takes
returns-clause-takes g c = λ told.
    let t = c.perform_next-outcome.ensures.takes told in
    let few = subst (λ (w : Contents). length t.0 + used w ≤ w.room + 2) c.in-Some.ensures.comes.0 t.1.few in
    rw (← c.self.view_is) (t.0, record { consumed = t.1.consumed; few = omega (arith, size-used c.self.inside.meta c.self.inside.work, few) })
