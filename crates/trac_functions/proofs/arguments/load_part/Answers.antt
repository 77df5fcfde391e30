use Rattle.trac_functions.proofs.ArgumentLemmas.{flat-bytes}
use Rattle.trac_functions.proofs.arguments.load_part.Goals as goal

pub returns-clause-first : goal.returns-clause-first
returns-clause-first c = rw (flat-bytes _ c.requires.part.bytes) c.load_part.ensures.first
