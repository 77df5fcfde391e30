use Rattle.trac_devices.proofs.Imports.{◌≡◌, ◌∙◌, ◌+◌, ◌∷◌, ◌++◌, [], ap, sym, take, arith, get_or, set, slice_range}
use Rattle.trac_devices.proofs.Bytes.{consumes_front, one_given, part_first}
use Rattle.trac_devices.proofs.buffered.BufferedReaderRead.read.Goals as goal

pub returns-then-self-clause-bytes : goal.returns-then-self-clause-bytes
returns-then-self-clause-bytes g c =
    let r = c.self.inside in
    let byte = get_or r.bytes r.start 0 in
    let rest = slice_range r.bytes (r.start + 1) r.end in
    let given : take 1 (set c.args.buf.now 0 byte) ≡ byte ∷ [] = one_given c.args.buf.now byte (omega arith) in
    let split : slice_range r.bytes r.start r.end ≡ take 1 (set c.args.buf.now 0 byte) ++ rest =
    part_first r.bytes r.start r.end (omega arith) (omega arith) ∙ ap (λ ys. ys ++ rest) (sym given) in
    rw (← c.self.view_is) (
      consumes_front (g.R.Read.remaining r.device.reader) (slice_range r.bytes r.start r.end) _ rest split,
      λ none room. absurd (omega arith),
    )
