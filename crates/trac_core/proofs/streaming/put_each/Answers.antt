use Rattle.trac_devices.proofs.PutTexts.{prints-err, breaks-text}
use Rattle.trac_core.proofs.streaming.put_each.Goals as goal

pub returns-in_err-put-clause-prints : goal.returns-in_err-put-clause-prints
returns-in_err-put-clause-prints g c = λ told.
    let i = c.loop-i.invariant in
    prints-err c.from_residual.result _ _ c.args.text.now c.from_residual.ensures.0
    (breaks-text _ _ _ c.args.text.now c.loop-i.i (i.writes told) (c.in_err-put.ensures.writes (i.told told)))
