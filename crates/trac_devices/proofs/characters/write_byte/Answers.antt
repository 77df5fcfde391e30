use Rattle.trac_devices.proofs.Imports.{Byte}
use Rattle.trac_devices.proofs.characters.write_byte.Goals as goal

pub byte_in-requires : goal.byte_in-requires
byte_in-requires c = c.requires.characters c.args.i (Byte 0) c.requires.within
