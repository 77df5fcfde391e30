use Rattle.trac_core.proofs.StepsInRow.{one-step}
use Rattle.trac_core.proofs.scan.scan_steps.Goals as goal

pub returns-in-Protection-clause-comes : goal.returns-in-Protection-clause-comes
returns-in-Protection-clause-comes c = one-step _ _ c.args.most c.protect.ensures.scans c.protect.ensures.no_larger c.protect.ensures.shorter c.requires.some

pub returns-in-NumberSign-clause-comes : goal.returns-in-NumberSign-clause-comes
returns-in-NumberSign-clause-comes c =
    let sign = c.add_number_sign.ensures in
    one-step _ _ c.args.most sign.scans sign.no_larger sign.shorter c.requires.some
