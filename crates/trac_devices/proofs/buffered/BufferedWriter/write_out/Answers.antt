use Rattle.trac_devices.proofs.Imports.{◌-◌, ◌<◌, ◌++◌, ◌∙◌, ap, sym, take, drop, length, refl, subst, arith, length-take, slice_range, OnErr, take-append-drop}
use Rattle.trac_devices.proofs.Bytes.{keeps_passed, on_err, part_dropped}
use Rattle.trac_devices.proofs.buffered.BufferedWriter.write_out.Goals as goal

pub returns-in_err-result-clause-bytes : goal.returns-in_err-result-clause-bytes
returns-in_err-result-clause-bytes g c =
    let w = c.self.inside in
    let n = c.write_until_failure-written.result.0 in
    let held = slice_range w.bytes w.start w.end in
    let size = length-take (w.end - w.start) (drop w.start w.bytes) in
    let rest = part_dropped w.bytes w.start n w.end (omega (arith, c.write_until_failure-written.ensures.bound)) in
    rw (← c.self.view_is)
    (keeps_passed _ _ held (take n held) _ c.write_until_failure-written.ensures.bytes (sym (take-append-drop n held) ∙ ap (λ xs. take n held ++ xs) (sym rest)))

pub returns-in_err-result-clause-rest : goal.returns-in_err-result-clause-rest
returns-in_err-result-clause-rest g c =
    let w = c.self.inside in
    let n = c.write_until_failure-written.result.0 in
    let size = length-take (w.end - w.start) (drop w.start w.bytes) in
    let some : n < length (slice_range w.bytes w.start w.end) = subst (λ r. OnErr r (n < length (slice_range w.bytes w.start w.end))) c.in_err-result.was c.write_until_failure-written.ensures.rest in
    rw (← c.self.view_is) (on_err c.from_residual.result (refl, (n, (some, part_dropped w.bytes w.start n w.end (omega (arith, some))))))
