use Rattle.trac_core.proofs.Imports.{◌++◌, slice_range, length, refl, codes, show}
use Rattle.trac_devices.proofs.PutTexts.{prints-err}
use Rattle.trac_core.proofs.FormDisplay.{breaks-off, breaks-then, prints-then, display-parts}
use Rattle.trac_core.proofs.display.show_form.Goals as goal

pub returns-in_err-show_items-clause-prints : goal.returns-in_err-show_items-clause-prints
returns-in_err-show_items-clause-prints g c = λ told.
    let form = c.args.form.now in
    let end = length form.body in
    rw (display-parts form c.pointer-pointer.result end c.pointer-pointer.ensures.value refl)
    (prints-err c.from_residual.result _ _ _ c.from_residual.ensures.0
    (breaks-off _ _ _ (codes "<^>" ++ show (slice_range form.body c.pointer-pointer.result end)) (c.in_err-show_items.ensures.prints told)))

pub returns-in_err-put_bytes-clause-prints : goal.returns-in_err-put_bytes-clause-prints
returns-in_err-put_bytes-clause-prints g c = λ told.
    let form = c.args.form.now in
    let end = length form.body in
    let told_one = c.in_ok-show_items.ensures.told told in
    rw (display-parts form c.pointer-pointer.result end c.pointer-pointer.ensures.value refl)
    (prints-err c.from_residual-in_err-put_bytes.result _ _ _ c.from_residual-in_err-put_bytes.ensures.0
    (breaks-then _ _ _ _ _ (c.in_ok-show_items.ensures.prints told)
    (breaks-off _ _ (codes "<^>") (show (slice_range form.body c.pointer-pointer.result end)) (c.in_err-put_bytes.ensures.prints told_one))))

pub returns-clause-prints : goal.returns-clause-prints
returns-clause-prints g c = λ told.
    let form = c.args.form.now in
    let told_one = c.in_ok-show_items.ensures.told told in
    let told_two = c.in_ok-put_bytes.ensures.told told_one in
    let rest = show (slice_range form.body c.pointer-pointer.result c.body_len.result) in
    rw (display-parts form c.pointer-pointer.result c.body_len.result c.pointer-pointer.ensures.value c.body_len.ensures.value)
    (prints-then c.show_items-2.result _ _ _ _ (codes "<^>" ++ rest) (c.in_ok-show_items.ensures.prints told)
    (prints-then c.show_items-2.result _ _ _ (codes "<^>") rest (c.in_ok-put_bytes.ensures.prints told_one) (c.show_items-2.ensures.prints told_two)))
