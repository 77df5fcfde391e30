use Rattle.trac_events.proofs.SoughtBytes.{apart-flagged}
use Rattle.trac_events.proofs.byte_search.ApartFromColumnsSought.others.Goals as goal

pub returns : goal.returns
returns c = λ f bytes is. apart-flagged f c.args.word c.others.result bytes is (c.others.ensures f bytes is)
