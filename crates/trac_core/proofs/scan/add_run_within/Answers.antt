use Rattle.trac_core.proofs.Imports.{◌≤◌, ◌<◌, length, arith}
use Rattle.trac_core.proofs.ArgumentRuns.{run-passes, run-some}
use Rattle.trac_core.proofs.Scanning.{some-active}
use Rattle.trac_core.proofs.scan.add_run_within.Goals as goal

pub returns-clause-passes : goal.returns-clause-passes
returns-clause-passes c =
    let old = c.args.work.now in
    let n = c.run_to_neutral.result in
    let run = c.run_to_neutral.ensures in
    let within : n ≤ length old.active = omega (arith, run.few) in
    rw (c.from.ensures, run.moved) (λ meta. run-passes meta n c.requires.opened.0 old c.requires.opened.1 c.requires.sound.active within run.run)

pub returns-clause-some : goal.returns-clause-some
returns-clause-some c = λ first is less allowed.
    let old = c.args.work.now in
    let n = c.run_to_neutral.result in
    let inside = some-active old.active first is in
    let reach : 0 < c.args.reach = omega (arith, inside, allowed) in
    rw c.from.ensures (run-some old.active n c.args.reach first is less reach c.run_to_neutral.ensures.ends)
