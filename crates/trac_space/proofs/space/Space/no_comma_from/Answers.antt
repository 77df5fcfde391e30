use Rattle.trac_space.proofs.BlockChanges.{parts_of}
use Rattle.trac_space.proofs.CommaPlaces.{no_comma-seen}
use Rattle.trac_space.proofs.space.Space.no_comma_from.Goals as goal

pub returns : goal.returns
returns c =
    rw (← c.self.view_is) (no_comma-seen (parts_of c.self.inside).neutral c.self.inside.no_comma_from c.self.invariant.no_comma)
