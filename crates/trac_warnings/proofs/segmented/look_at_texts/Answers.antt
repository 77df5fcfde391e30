use Rattle.trac_warnings.proofs.Keeping.{kept_more}
use Rattle.trac_warnings.proofs.Said.{next_gaps}
use Rattle.trac_warnings.proofs.segmented.look_at_texts.Goals as goal

pub loop-cell-preserved : goal.loop-cell-preserved
loop-cell-preserved g c =
    let i = c.loop-cell.invariant in
    record {
      kept = kept_more _ _ _ i.kept c.look_at_text.ensures.kept;
      said = next_gaps _ _ _ c.loop-cell.k _ c.loop-cell.cell-index _ c.args.ending.now.arguments.now c.args.items.now c.args.ending.now
          c.loop-cell-test.true c.in_ok-k.ensures.said c.in_ok-k.ensures.next i.said;
    }
