use Rattle.trac_c.proofs.Imports.{MachineState, ap, subst, ◌∙◌}
use Rattle.std.specs.Prelude.{◌⊎◌}
use Rattle.trac_c.specs.Traced.{StepTraced, Unseen, counting}
use Rattle.trac_c.specs.declared.trace.TracTrace.{TracTrace}
use Rattle.trac_c.proofs.trace.show_step.Goals as goal

pub returns-in-Ok : goal.returns-in-Ok
returns-in-Ok c =
    let a = c.args in
    let s = c.show_in in
    subst (λ (t : TracTrace). Unseen a.output.now s.new.output a.lines.now s.new.lines t (record a.machine.now { peak = 0 }) s.result s.new.trace s.new.machine ⊎ StepTraced a.ended a.input.now s.new.output a.lines.now s.new.lines t (record a.machine.now { peak = 0 }) s.result s.new.trace s.new.machine)
    (c.counting.ensures ∙ ap (λ p. counting p a.trace.now) c.take_peak.ensures.peak)
    (subst (λ (m : MachineState). Unseen a.output.now s.new.output a.lines.now s.new.lines c.counting.result m s.result s.new.trace s.new.machine ⊎ StepTraced a.ended a.input.now s.new.output a.lines.now s.new.lines c.counting.result m s.result s.new.trace s.new.machine)
    c.take_peak.ensures.after s.ensures)
