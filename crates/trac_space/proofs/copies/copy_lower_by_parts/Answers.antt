use Rattle.trac_space.proofs.Imports.{arith}
use Rattle.trac_space.proofs.Blocks.{carried-on}
use Rattle.trac_space.proofs.copies.copy_lower_by_parts.Goals as goal

pub loop-done-preserved : goal.loop-done-preserved
loop-done-preserved c = record {
  within = omega arith;
  copied = carried-on c.args.cells.now c.loop-done.cells _ c.args.start c.args.to c.loop-done.done _ (omega arith) (omega arith) c.loop-done.invariant.copied c.copy_disjoint.ensures.after;
}
