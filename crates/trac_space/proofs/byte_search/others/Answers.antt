use Rattle.std.specs.Prelude.{slice_index}
use Rattle.trac_space.proofs.ByteWords.{others-flagged}
use Rattle.trac_space.proofs.byte_search.others.Goals as goal

pub returns : goal.returns
returns c =
    rw c.from.ensures (others-flagged (λ k. slice_index c.args.text.now k) c.args.byte c.word.result (λ k. (c.type_inv.text k).fits) c.ranges.byte.fits c.word.ensures)
