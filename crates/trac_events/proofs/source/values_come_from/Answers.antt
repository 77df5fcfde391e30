use Rattle.trac_events.proofs.Sources as sources
use Rattle.trac_events.proofs.source.values_come_from.Goals as goal

pub returns : goal.returns
returns c = sources.values_come_from
