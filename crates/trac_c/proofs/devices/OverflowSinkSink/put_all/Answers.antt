use Rattle.trac_devices.proofs.PutTexts.{prints-err, breaks-text}
use Rattle.trac_c.proofs.devices.OverflowSinkSink.put_all.Goals as goal

pub returns-in_err-put-clause-prints : goal.returns-in_err-put-clause-prints
returns-in_err-put-clause-prints c = λ _.
    prints-err c.from_residual.result _ _ c.args.text.now c.from_residual.ensures.0
    (breaks-text _ _ _ c.args.text.now c.loop-i.i c.loop-i.invariant.writes (c.in_err-put.ensures.writes tt))
