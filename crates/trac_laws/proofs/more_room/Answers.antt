use Rattle.trac_laws.proofs.Runs.{more_room_law}
use Rattle.trac_laws.proofs.more_room.Goals as goal

pub returns : goal.returns
returns c = more_room_law
