use Rattle.std.specs.Prelude.{is_none}
use Rattle.trac_core.proofs.Imports.{refl, sym, ap, ◌∙◌, arith, true≢false, memory_of, scene, moment, MachineState}
use Rattle.trac_functions.proofs.FlatLemmas.{size-used}
use Rattle.trac_core.proofs.Answering.{unknown-innermost, none-known, tells-answered, null-answers}
use Rattle.trac_core.proofs.machine.Machine.answer.Goals as goal

pub returns-then-is_some-clause-limits : goal.returns-then-is_some-clause-limits
returns-then-is_some-clause-limits c =
    let i = c.self.inside in
    rw (← c.self.view_is)
    (record { cells = omega (arith, size-used i.meta i.work); steps = c.self.invariant.0; peak = c.self.invariant.1 })

pub returns-in_default-clause-limits : goal.returns-in_default-clause-limits
returns-in_default-clause-limits c =
    let i = c.self.inside in
    rw (← c.self.view_is)
    (record { cells = omega (arith, size-used i.meta i.work); steps = c.self.invariant.0; peak = c.self.invariant.1 })

pub returns-in_default-clause-answered : goal.returns-in_default-clause-answered
returns-in_default-clause-answered c =
    let i = c.self.inside in
    rw (← c.self.view_is) (((λ a. absurd (true≢false (sym a.unknown ∙ c.in_default.ensures.call i.meta))), refl))

pub returns-then-self-clause-answered : goal.returns-then-self-clause-answered
returns-then-self-clause-answered c =
    let i = c.self.inside in
    let closed = c.in-Some.ensures.call in
    rw (← c.self.view_is) (
      record {
        going = none-known i.fate (sym c.is_some.ensures ∙ c.if-is_some.false);
        unknown = unknown-innermost i.work c.in-Some.place i.meta closed.0 closed.1.0 ∙ ap is_none closed.1.1;
      },
      λ source written. record { used_up = omega (arith, c.if-self.true); memory = refl; counts = record { steps = omega arith; peak = omega arith }; source = refl; written = refl },
    )

pub returns-then-self-clause-limits : goal.returns-then-self-clause-limits
returns-then-self-clause-limits c =
    let i = c.self.inside in
    record { cells = omega (arith, size-used i.meta i.work); steps = c.self.invariant.0; peak = c.self.invariant.1 }

pub returns-clause-answered : goal.returns-clause-answered
returns-clause-answered c =
    let i = c.self.inside in
    let closed = c.in-Some.ensures.call in
    let m : MachineState = record { memory = memory_of i.meta i.work; room = i.work.room; allowance = i.allowance; steps = i.steps; peak = i.peak; fate = i.fate; stops = i.stops } in
    rw (← c.self.view_is, c.count.ensures.answer, c.count.ensures.after, c.end_answered-outcome.ensures.keeps.room) (
      record {
        going = none-known i.fate (sym c.is_some.ensures ∙ c.if-is_some.false);
        unknown = unknown-innermost i.work c.in-Some.place i.meta closed.0 closed.1.0 ∙ ap is_none closed.1.1;
      },
      λ source written. tells-answered c.args.how c.args.value.now c.in-Some.place c.end_answered-outcome.result.need c.end_answered-outcome.result.fate (scene i.work i.meta source written) c.end_answered-outcome.new.work
          (record { sound = c.in-Some.ensures.sound; first = closed.0; last = closed.1.0; fits = c.end_answered-outcome.ensures.fits; ended = c.end_answered-outcome.ensures.ended }) m refl refl (omega (arith, c.self.invariant.0, c.if-self.false)),
    )

pub returns-clause-null : goal.returns-clause-null
returns-clause-null c = λ value_is how_is source written.
    let a = returns-clause-answered c in
    null-answers (moment c.args.self.now source written) (moment c.count.new.self source written) c.count.result a.0.unknown (rw (value_is, how_is) at (a.1 source written))
