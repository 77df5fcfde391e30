use Rattle.trac_core.proofs.Imports.{◌≡◌, ◌+◌, ◌-◌, rules, None, Some, Steps, Report, MachineState, memory_of, unwrap_or, standing, moment, input_failures, output_failures, Resumes, LeavesMemory, ap, ◌∙◌, sym, subst, arith}
use Rattle.trac_functions.proofs.FlatLemmas.{size-used}
use Rattle.trac_core.proofs.Reported.{course_to, report_of}
use Rattle.trac_core.proofs.RunningOn.{run-ends}
use Rattle.trac_core.proofs.machine.Machine.resume.Goals as goal

pub returns-in-Some-clause-limits : goal.returns-in-Some-clause-limits
returns-in-Some-clause-limits g c =
    let i = c.self.inside in
    rw (← c.self.view_is)
    (record { cells = omega (arith, size-used i.meta i.work); steps = c.self.invariant.0; peak = c.self.invariant.1 })

pub returns : goal.returns
returns g c =
    let start = standing c.args.self.now c.args.source.now c.args.sink.now in
    let last = standing c.drive.new.self c.drive.new.source c.drive.new.sink in
    let h = c.drive.ensures in
    let view = c.self.view_is in
    let after = c.self-2.view_is in
    let none : c.args.self.now.fate ≡ None = sym (ap (λ (m : MachineState). m.fate) view) ∙ c.in_default.is in
    let most_is : c.args.self.now.steps + (c.self.inside.allowance - c.self.inside.steps) ≡ c.args.self.now.allowance = rw (← view) (omega (arith, c.self.invariant.0)) in
    let ends = run-ends g.I.Source.tells g.I.Source.stream g.I.Source.failure_count g.O.Sink.tells g.O.Sink.flushed g.O.Sink.written g.O.Sink.lent g.O.Sink.failure_count start last _ c.drive.result.done most_is h.counts h.driven in
    let report_is : c.report_with-2.result ≡ report_of (unwrap_or c.drive.new.self.fate Steps) c.drive.new.self =
    c.report_with-2.ensures ∙ (λ i. report_of ((c.unwrap_or-fate.ensures ∙ ap (λ (m : MachineState). unwrap_or m.fate Steps) after) i) (after i)) in
    let fate_is = ap (λ (report : Report). report.fate) report_is in
    let course = course_to c.args.self.now (g.I.Source.stream c.args.source.now).bytes (g.O.Sink.written c.args.sink.now) (moment c.args.self.now (g.I.Source.stream c.drive.new.source) (g.O.Sink.written c.drive.new.sink)) in
    record {
      reports = λ going told_source told_sink.
          subst (λ (report : Report). Resumes c.args.self.now report.fate course report) (sym report_is) (ends.reports told_source told_sink);
      leaves = λ going told_source told_sink.
          subst (λ (report : Report). LeavesMemory report.fate course c.args.self.now.memory (report.steps - c.args.self.now.steps) (memory_of c.self-2.inside.meta c.self-2.inside.work)) (sym report_is)
          (subst (λ memory. LeavesMemory (unwrap_or c.drive.new.self.fate Steps) course c.args.self.now.memory (c.drive.new.self.steps - c.args.self.now.steps) memory) (sym (ap (λ (m : MachineState). m.memory) after)) (ends.leaves told_source told_sink));
      over = search rules;
      told = search rules;
      fate = search rules;
      input_failed = ends.input_failed ∙ (λ i. g.I.Source.failure_count c.args.source.now + input_failures (sym none i) (Some (sym fate_is i)));
      output_failed = ends.output_failed ∙ (λ i. g.O.Sink.failure_count c.args.sink.now + output_failures (sym none i) (Some (sym fate_is i)));
      sent = λ other. ends.sent (λ e. other (fate_is ∙ e));
      told_source = ends.told_source;
      told_sink = ends.told_sink;
      kept = ends.kept;
      room = search rules;
      allowance = search rules;
      stops = search rules;
      limits = search rules;
    }
