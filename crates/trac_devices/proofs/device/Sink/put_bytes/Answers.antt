use Rattle.trac_devices.proofs.PutTexts.{prints-err, breaks-text}
use Rattle.trac_devices.proofs.device.Sink.put_bytes.Goals as goal

pub returns-in_err-put-clause-prints : goal.returns-in_err-put-clause-prints
returns-in_err-put-clause-prints g c = λ told.
    let i = c.loop-byte.invariant in
    prints-err c.from_residual.result _ _ c.args.bytes.now c.from_residual.ensures.0
    (breaks-text _ _ _ c.args.bytes.now c.loop-byte.byte-index (i.writes told) (c.in_err-put.ensures.writes (i.told told)))
