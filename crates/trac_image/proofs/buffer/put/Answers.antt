use Rattle.trac_image.proofs.Imports.{arith, ◌∷◌, []}
use Rattle.trac_image.proofs.Buffers.{laid-put, laid-behind}
use Rattle.trac_image.proofs.buffer.put.Goals as goal

pub returns-then-place-room : goal.returns-then-place-room
returns-then-place-room g c = laid-put c.args.item c.args.place c.args.room.now c.if-place-room.true

pub returns-else-place-room : goal.returns-else-place-room
returns-else-place-room g c = laid-behind (c.args.item ∷ []) c.args.place c.args.room.now (omega arith)
