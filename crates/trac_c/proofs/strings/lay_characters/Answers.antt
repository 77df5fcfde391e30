use Rattle.trac_c.proofs.Imports.{◌∙◌, arith, character_of}
use Rattle.trac_c.proofs.Buffers.{laid-mapped, laid-enough}
use Rattle.trac_c.proofs.strings.lay_characters.Goals as goal

pub loop-i-preserved : goal.loop-i-preserved
loop-i-preserved c = record {
  laid = laid-mapped character_of c.args.cells.now c.args.room.now c.loop-i.i _ _ c.loop-i.room c.put.new.room (omega arith) (c.from.ensures ∙ c.character_of.ensures) c.loop-i.invariant.laid c.put.ensures;
  within = omega arith;
}

pub returns-clause-laid : goal.returns-clause-laid
returns-clause-laid c =
    c.loop-i.invariant.laid ∙ laid-enough character_of c.loop-i.i c.args.cells.now c.args.room.now (omega arith)
