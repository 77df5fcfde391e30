use Rattle.trac_core.proofs.Imports.{arith, length-drop}
use Rattle.trac_core.proofs.Scanning.{scans-parenthesis, some-active}
use Rattle.trac_core.proofs.StepsInRow.{one-step}
use Rattle.trac_core.proofs.scan.end_call.Goals as goal

pub returns-in-None-clause-comes : goal.returns-in-None-clause-comes
returns-in-None-clause-comes c =
    let old = c.args.work.now in
    let some = some-active old.active 41 c.requires.closes in
    let less = length-drop 1 old.active in
    rw c.drop_active.ensures.rest
    (one-step old _ 1 (scans-parenthesis old c.requires.closes c.in-None.ensures) (omega arith) (omega arith) (omega arith))
