use Rattle.trac_devices.proofs.Imports.{◌≡◌, ◌-◌, ◌∙◌, take, length, sym, subst, ap, arith, length-take, slice_range, Keeps, accepted}
use Rattle.trac_devices.proofs.Bytes.{appends_behind, appends_kept, part_appended}
use Rattle.trac_devices.proofs.buffered.BufferedWriter.write_text.Goals as goal

pub returns-clause-bytes : goal.returns-clause-bytes
returns-clause-bytes g c =
    let w = c.self.inside in
    let n = c.min-n.result in
    let text = c.args.text.now in
    let more = take n text in
    let size : length more ≡ n = omega (arith, c.min-n.ensures, c.len.ensures, length-take n text) in
    let all : n - 0 ≡ n = omega arith in
    let written : c.write.new.bytes ≡ more = c.write.ensures ∙ c.part.ensures ∙ ap (λ k. take k text) all in
    let kept = subst (λ v. Keeps (accepted g.W.Write.contents c.args.self.now) (accepted g.W.Write.contents v)) (sym c.self.view_is) c.make_room.ensures.bytes in
    appends_kept _ _ _ _ kept
    (appends_behind (g.W.Write.contents w.device.writer) (slice_range w.bytes w.start w.end) _ more
    (part_appended w.bytes w.start w.end n (omega arith) (omega arith) c.write.new.bytes more _ written size (omega arith)))
