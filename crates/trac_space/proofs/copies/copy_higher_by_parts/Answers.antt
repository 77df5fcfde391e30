use Rattle.trac_space.proofs.Imports.{arith}
use Rattle.trac_space.proofs.Blocks.{copied-up}
use Rattle.trac_space.proofs.copies.copy_higher_by_parts.Goals as goal

pub loop-left-preserved : goal.loop-left-preserved
loop-left-preserved c = record {
  within = omega arith;
  copied = copied-up c.args.cells.now c.loop-left.cells _ c.args.start c.args.to _ c.loop-left.left _ (omega arith) (omega arith) c.loop-left.invariant.within (omega arith) c.loop-left.invariant.copied c.copy_disjoint.ensures.after;
}
