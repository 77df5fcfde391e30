use Rattle.std.proofs.Common.{ℕ, length, slice_range}
use Rattle.std.specs.Prelude.{slice_index}
use Rattle.trac_events.proofs.SoughtBytes.{in-parts, part-byte}
use Rattle.trac_events.proofs.byte_search.has_in_block.Goals as goal

pub returns : goal.returns
returns g c =
    let text = c.args.text.now in
    let small = λ (k : ℕ). (c.type_inv.text k).fits in
    in-parts (g.S.Sought.seeks c.args.sought.now) text c.others.result c.others-2.result c.others-3.result
    c.others-4.result c.requires
    (c.others.ensures (λ k. slice_index (slice_range text 0 8) k) (part-byte text 0 8 small) c.word.ensures)
    (c.others-2.ensures (λ k. slice_index (slice_range text 8 16) k) (part-byte text 8 16 small) c.word-2.ensures)
    (c.others-3.ensures (λ k. slice_index (slice_range text 16 24) k) (part-byte text 16 24 small) c.word-3.ensures)
    (c.others-4.ensures (λ k. slice_index (slice_range text 24 (length text)) k)
    (part-byte text 24 (length text) small) c.word-4.ensures)
