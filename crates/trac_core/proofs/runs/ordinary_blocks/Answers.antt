use Rattle.trac_core.proofs.Imports.{arith}
use Rattle.trac_core.proofs.OrdinaryBlocks.{ordinary-eight, ordinary-sixteen}
use Rattle.trac_core.proofs.runs.ordinary_blocks.Goals as goal

pub loop-i-preserved : goal.loop-i-preserved
loop-i-preserved c =
    record {
      within = omega arith;
      ordinary = ordinary-sixteen c.args.cells.now c.loop-i.i _ _ c.kinds-first.ensures.kinds c.kinds-second.ensures.kinds c.if-first-second-gt0.false c.loop-i.invariant.ordinary;
    }

pub returns-else-first-gt0-clause-ordinary : goal.returns-else-first-gt0-clause-ordinary
returns-else-first-gt0-clause-ordinary c =
    ordinary-eight c.args.cells.now c.loop-i.i _ c.kinds-first.ensures.kinds c.if-first-gt0.false c.loop-i.invariant.ordinary

pub returns-then-kinds-eq0-clause-ordinary : goal.returns-then-kinds-eq0-clause-ordinary
returns-then-kinds-eq0-clause-ordinary c =
    ordinary-eight c.args.cells.now c.loop-i.i _ c.kinds.ensures.kinds (omega (arith, c.if-kinds-eq0.true)) c.loop-i.invariant.ordinary
