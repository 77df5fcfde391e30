use Rattle.trac_c.proofs.Imports.{refl}
use Rattle.trac_devices.proofs.PutTexts.{breaks-text}
use Rattle.trac_c.proofs.filling.FillingSinkSink.put_all.Goals as goal

pub returns-then-count-len-clause-prints : goal.returns-then-count-len-clause-prints
returns-then-count-len-clause-prints c = λ _.
    breaks-text _ _ _ c.args.text.now c.put_characters-count.result c.put_characters-count.ensures.put refl
