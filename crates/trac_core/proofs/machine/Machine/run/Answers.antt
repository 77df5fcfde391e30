use Rattle.trac_core.proofs.Imports.{refl, ap, MachineState}
use Rattle.trac_core.proofs.Reported.{reports-made}
use Rattle.trac_core.proofs.machine.Machine.run.Goals as goal

pub returns-clause-reports : goal.returns-clause-reports
returns-clause-reports g c = λ told_source told_sink.
    let not_over = ap (λ (m : MachineState). m.fate) c.requires.fresh_machine in
    reports-made c.args.self c.requires.fresh_machine c.resume.result.fate _ c.resume.result refl
    (c.resume.ensures.reports not_over told_source told_sink)
