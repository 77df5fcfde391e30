use Rattle.trac_core.proofs.Imports.{◌++◌, codes, decimal}
use Rattle.trac_devices.proofs.PutTexts.{prints-err}
use Rattle.trac_core.proofs.FormDisplay.{breaks-off, breaks-then}
use Rattle.trac_core.proofs.display.show_gap.Goals as goal

pub returns-in_err-put_number-clause-prints : goal.returns-in_err-put_number-clause-prints
returns-in_err-put_number-clause-prints g c = λ told.
    prints-err c.from_residual-in_err-put_number.result _ _ (codes "<" ++ decimal c.args.ordinal ++ codes ">") c.from_residual-in_err-put_number.ensures.0
    (breaks-then _ _ _ (codes "<") (decimal c.args.ordinal ++ codes ">") (c.in_ok-put.ensures.writes told)
    (breaks-off _ _ (decimal c.args.ordinal) (codes ">") (c.in_err-put_number.ensures.prints (c.in_ok-put.ensures.told told))))
