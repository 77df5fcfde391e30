use Rattle.trac_space.proofs.Cleared.{cleared-more}
use Rattle.trac_space.proofs.tags.clear_tags.Goals as goal

pub loop-k-preserved : goal.loop-k-preserved
loop-k-preserved c =
    cleared-more c.args.cells.now c.loop-k.cells c.loop-k.k c.untagged_cell.result c.loop-k-test.true c.loop-k.invariant c.untagged_cell.ensures
