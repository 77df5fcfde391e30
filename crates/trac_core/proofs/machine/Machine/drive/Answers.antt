use Rattle.trac_core.proofs.Imports.{◌≡◌, None, Fate, Option, MachineState, Driven, standing, turning, advanced_to, arith, ap, ◌∙◌, sym, subst}
use Rattle.trac_core.specs.declared.machine.Counters.{Counters}
use Rattle.trac_functions.proofs.FlatLemmas.{size-used}
use Rattle.trac_core.proofs.machine.Machine.drive.Goals as goal

pub returns-clause-driven : goal.returns-clause-driven
returns-clause-driven g c =
    let i = c.self.inside in
    let at : Counters = record { allowance = i.allowance; steps = i.steps; peak = i.peak } in
    let to = c.go_on-to in
    let going : i.fate ≡ None = ap (λ (m : MachineState). m.fate) c.self.view_is ∙ c.requires.going in
    rw (← c.self.view_is)
    (subst (λ (fate : Option Fate). Driven (g.P.Performer.performed c.args.performer) (g.P.Performer.declines c.args.performer) c.args.most to.result.progress.done
    (standing (record (turning i.stops i.work i.meta at) { fate = fate }) c.args.source.now c.args.sink.now) (standing (advanced_to i.stops to.new.work to.new.meta at to.result) to.new.source to.new.sink))
    (sym going) (to.ensures.driven i.stops))

pub returns-clause-limits : goal.returns-clause-limits
returns-clause-limits g c =
    let h = c.go_on-to.ensures in
    record {
      cells = omega (arith, size-used c.go_on-to.new.meta c.go_on-to.new.work);
      steps = h.steps;
      peak = omega arith;
    }
