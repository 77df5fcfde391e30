use Rattle.trac_devices.proofs.Imports.{◌≡◌, take, length, sym, subst, arith, length-take, slice_range, Keeps, accepted}
use Rattle.trac_devices.proofs.Bytes.{appends_behind, appends_kept, part_appended}
use Rattle.trac_devices.proofs.buffered.BufferedWriter.write_part.Goals as goal

pub returns-clause-bytes : goal.returns-clause-bytes
returns-clause-bytes g c =
    let w = c.self.inside in
    let n = c.min-n.result in
    let few = c.min-n.ensures in
    let more = take n c.args.buf.now in
    let size : length more ≡ n = omega (arith, length-take n c.args.buf.now) in
    let kept = subst (λ v. Keeps (accepted g.W.Write.contents c.args.self.now) (accepted g.W.Write.contents v)) (sym c.self.view_is) c.make_room.ensures.bytes in
    appends_kept _ _ _ _ kept
    (appends_behind (g.W.Write.contents w.device.writer) (slice_range w.bytes w.start w.end) _ more
    (part_appended w.bytes w.start w.end n (omega arith) (omega arith) c.copy_from_slice.new.self more _ c.copy_from_slice.ensures.after size (omega arith)))
