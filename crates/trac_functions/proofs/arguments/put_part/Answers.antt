use Rattle.trac_functions.proofs.ArgumentLemmas.{flat-bytes}
use Rattle.trac_functions.proofs.arguments.put_part.Goals as goal

pub returns-clause-last : goal.returns-clause-last
returns-clause-last c = rw (flat-bytes _ c.requires.part.bytes) c.copy_neutral.ensures.last
