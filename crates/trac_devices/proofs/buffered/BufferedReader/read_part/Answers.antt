use Rattle.trac_devices.proofs.Imports.{◌≡◌, ◌∙◌, ◌+◌, ◌++◌, [], ap, take, drop, length, sym, subst, arith, take_at, length-take, length-append, length-drop, slice_range, Consumes, Keeps, IsAtEnd, unread}
use Rattle.trac_devices.proofs.Bytes.{at_end, consumes_front, consumes_kept, part_split}
use Rattle.trac_devices.proofs.buffered.BufferedReader.read_part.Goals as goal

pub returns-clause-bytes : goal.returns-clause-bytes
returns-clause-bytes g c =
    let r = c.self.inside in
    let n = c.min-n.result in
    let buf = c.args.buf.now in
    let rest = g.R.Read.remaining r.device.reader in
    let few = c.min-n.ensures in
    let split = part_split r.bytes r.start n r.end (omega arith) in
    let long : length c.copy_from_slice.new.self ≡ n = omega (arith, c.copy_from_slice.ensures.len, length-take n buf) in
    let given : take n (c.copy_from_slice.new.self ++ drop n buf) ≡ slice_range r.bytes r.start (r.start + n) =
    take_at c.copy_from_slice.new.self (drop n buf) n long ∙ c.copy_from_slice.ensures.after in
    let taken = consumes_front rest (slice_range r.bytes r.start r.end) _ (slice_range r.bytes (r.start + n) r.end) split in
    let kept = subst (λ v. Keeps (unread g.R.Read.remaining c.args.self.now) (unread g.R.Read.remaining v)) (sym c.self.view_is) c.fill.ensures.bytes in
    let ended = subst (λ v. v.held ≡ [] → IsAtEnd (g.R.Read.remaining v.device.reader)) (sym c.self.view_is) c.in_ok-fill.ensures.end in (
      consumes_kept _ _ _ _ kept (subst (Consumes _ _) (sym given) taken),
      λ none room.
          let size = length-append c.copy_from_slice.new.self (drop n buf) in
          let empty : r.start ≡ r.end = omega (arith, length-drop n buf) in
          let held : slice_range r.bytes r.start r.end ≡ [] = ap (λ k. take k (drop r.start r.bytes)) {y = 0} (omega arith) in
          let left : slice_range r.bytes (r.start + n) r.end ≡ [] = ap (λ k. take k (drop (r.start + n) r.bytes)) {y = 0} (omega arith) in
          at_end rest (slice_range r.bytes (r.start + n) r.end) left (ended held),
    )
