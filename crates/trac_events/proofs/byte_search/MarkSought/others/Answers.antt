use Rattle.std.proofs.Common.{◌≡◌, ◌∙◌}
use Rattle.std.specs.Prelude.{bit_and, not, ◌==◌, ◌&&◌}
use Rattle.trac_events.proofs.SoughtBytes.{both-flagged, three-flagged}
use Rattle.trac_events.proofs.byte_search.MarkSought.others.Goals as goal

pub returns : goal.returns
returns c = λ f bytes is.
    three-flagged f c.others.result c.others-2.result c.others-3.result (c.others.ensures f bytes is)
    (c.others-2.ensures f bytes is) (c.others-3.ensures f bytes is)
