use Rattle.trac_space.proofs.ByteWords.{others-flagged}
use Rattle.trac_events.proofs.byte_search.others.Goals as goal

pub returns : goal.returns
returns c = λ f bytes is.
    rw c.from.ensures (others-flagged f c.args.byte c.args.word bytes c.ranges.byte.fits is)
