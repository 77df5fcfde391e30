use Rattle.trac_laws.proofs.Runs.{least_room_law, less_room_law}
use Rattle.trac_laws.proofs.least_room.Goals as goal

pub returns-clause-enough : goal.returns-clause-enough
returns-clause-enough c = least_room_law

pub returns-clause-less : goal.returns-clause-less
returns-clause-less c = less_room_law
