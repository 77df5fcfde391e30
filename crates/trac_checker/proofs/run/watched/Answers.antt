use Rattle.std.proofs.Common.{◌≡◌, ◌∙◌, ap, arith, length, refl, subst, sym}
use Rattle.trac_core.specs.Machine.{KeepsLimits, MachineState, fresh_machine, moment}
use Rattle.trac_events.proofs.Failures.{last-failures}
use Rattle.trac_checker.specs.FoundSoFar.{found_in, with_names}
use Rattle.trac_checker.specs.WatchedRuns.{Watches}
use Rattle.trac_checker.specs.WrittenBytes.{bytes_of}
use Rattle.trac_checker.proofs.WatchedRows.{row-watched}
use Rattle.trac_checker.proofs.Watching.{watched-first, watched-more, watched-over}
use Rattle.trac_checker.proofs.run.watched.Goals as goal

pub loop-findings-init : goal.loop-findings-init
loop-findings-init g c =
    let machine_is : c.over-machine.result ≡ fresh_machine (length c.args.block.now) c.args.steps = c.over-machine.ensures in
    record {
      not_over = ap (λ (m : MachineState). m.fate) machine_is;
      limits = subst KeepsLimits (sym machine_is) (record { cells = omega arith; steps = omega arith; peak = omega arith });
      empty = c.new-watch.ensures.0;
      source_failures = refl;
      same_allowance = ap (λ (m : MachineState). m.allowance) machine_is;
      same_room = ap (λ (m : MachineState). m.room) machine_is;
      told = λ told. told;
      watched = λ told.
          watched-first c.args.input.now (length c.args.block.now) c.args.steps (g.I.Source.stream c.args.source.now) c.over-machine.result (bytes_of c.new-null_sink.result.written.value) c.new-watch.result (found_in c.in_ok-findings.findings)
          c.new-watch.ensures machine_is c.new-null_sink.ensures c.in_ok-findings.ensures;
    }

pub returns-in-Some : goal.returns-in-Some
returns-in-Some g c =
    let i = c.loop-findings.invariant in
    let h = c.in-Some.ensures in
    let m = c.pass_row.new.machine in
    let passes = c.in_ok-pass_row.ensures.passes in
    let room = c.pass_row.ensures.room ∙ i.same_room in
    let allowance = c.pass_row.ensures.allowance ∙ i.same_allowance in
    let next = c.step-fate.new.self in
    let failures = last-failures m.fate c.in-Some.fate passes.going in
    let looked = c.in_ok-before.ensures in
    let judged = c.in_ok-judge_step.ensures in
    let kept = c.in_ok-keep_warnings.ensures in
    let row = λ (tells : g.I.Source.tells c.args.source.now).
    row-watched c.args.input.now (fresh_machine (length c.args.block.now) c.args.steps) (g.I.Source.stream c.args.source.now) (g.I.Source.stream c.loop-findings.source) (bytes_of c.loop-findings.null_sink.written.value)
    c.loop-findings.machine m c.loop-findings.watch c.pass_row.new.watch (found_in c.loop-findings.findings) passes i.not_over i.limits i.same_room i.empty (i.watched tells) in
    let watches : Watches c.args.input.now m next c.pass_row.new.watch c.judge_step.new.self = record {
      before = c.in_ok-before.before;
      looked = c.look.new.self;
      seen = looked.seen;
      looks = looked.looks;
      places = looked.stays;
      undone = judged.undone;
      kept = judged.kept;
      moves = judged.moved;
      reads = judged.read;
      tells = judged.tells;
      counted = judged.counted;
    } in
    record {
      input_failed = omega (arith, h.input_failed, failures, i.source_failures);
      steps = omega (arith, h.limits.steps, h.allowance, allowance, c.steps.ensures);
      peak = omega (arith, h.limits.peak, h.room, room, c.peak.ensures);
      watches = λ tells.
          watched-over c.args.input.now (length c.args.block.now) c.args.steps (g.I.Source.stream c.args.source.now)
          (moment m (g.I.Source.stream c.loop-findings.source) (bytes_of c.loop-findings.null_sink.written.value))
          (moment next (g.I.Source.stream c.step-fate.new.source) (bytes_of c.step-fate.new.sink.written.value))
          c.pass_row.new.watch c.judge_step.new.self c.keep_warnings.new.watch (found_in c.loop-findings.findings) (found_in c.keep_warnings.new.findings) (found_in c.add_names.new.findings) c.in-Some.fate
          (record { fate = c.in-Some.fate; steps = c.steps.result; peak = c.peak.result })
          room allowance (row tells) watches kept.stays kept.found (c.in_ok-add_names.ensures ∙ ap (with_names c.args.input.now) c.in_ok-add_fault.ensures)
          (h.answers passes.going (i.told tells) tt)
          (λ j. record { fate = c.in-Some.fate; steps = c.steps.ensures j; peak = c.peak.ensures j });
    }

pub loop-findings-preserved : goal.loop-findings-preserved
loop-findings-preserved g c =
    let i = c.loop-findings.invariant in
    let h = c.in_default.ensures in
    let m = c.pass_row.new.machine in
    let passes = c.in_ok-pass_row.ensures.passes in
    let room = c.pass_row.ensures.room ∙ i.same_room in
    let allowance = c.pass_row.ensures.allowance ∙ i.same_allowance in
    let next = c.step-fate.new.self in
    let source_failed = rw passes.going at h.input_failed in
    let looked = c.in_ok-before.ensures in
    let judged = c.in_ok-judge_step.ensures in
    let kept = c.in_ok-keep_warnings.ensures in
    let row = λ (tells : g.I.Source.tells c.args.source.now).
    row-watched c.args.input.now (fresh_machine (length c.args.block.now) c.args.steps) (g.I.Source.stream c.args.source.now) (g.I.Source.stream c.loop-findings.source) (bytes_of c.loop-findings.null_sink.written.value)
    c.loop-findings.machine m c.loop-findings.watch c.pass_row.new.watch (found_in c.loop-findings.findings) passes i.not_over i.limits i.same_room i.empty (i.watched tells) in
    let watches : Watches c.args.input.now m next c.pass_row.new.watch c.judge_step.new.self = record {
      before = c.in_ok-before.before;
      looked = c.look.new.self;
      seen = looked.seen;
      looks = looked.looks;
      places = looked.stays;
      undone = judged.undone;
      kept = judged.kept;
      moves = judged.moved;
      reads = judged.read;
      tells = judged.tells;
      counted = judged.counted;
    } in
    record {
      not_over = h.fate;
      limits = h.limits;
      empty = kept.none;
      source_failures = omega (arith, i.source_failures, source_failed);
      same_allowance = h.allowance ∙ allowance;
      same_room = h.room ∙ room;
      told = λ tells. h.told_source (i.told tells);
      watched = λ tells.
          let took = h.takes (i.told tells) in
          watched-more c.args.input.now (fresh_machine (length c.args.block.now) c.args.steps) (g.I.Source.stream c.args.source.now)
          (moment m (g.I.Source.stream c.loop-findings.source) (bytes_of c.loop-findings.null_sink.written.value))
          (moment next (g.I.Source.stream c.step-fate.new.source) (bytes_of c.step-fate.new.sink.written.value))
          c.pass_row.new.watch c.judge_step.new.self c.keep_warnings.new.watch (found_in c.loop-findings.findings) (found_in c.keep_warnings.new.findings)
          room (row tells) watches kept.stays kept.found took.0 took.1.consumed
          (h.answers passes.going (i.told tells) tt);
    }

pub loop-findings-smaller : goal.loop-findings-smaller
loop-findings-smaller g c =
    let h = c.in_default.ensures in
    let done = h.proceeds refl in
    omega (arith, done.0, done.1, h.allowance, c.pass_row.ensures.allowance, c.in_ok-pass_row.ensures.passes.steps)
