use Rattle.trac_warnings.proofs.Keeping.{kept_more}
use Rattle.trac_warnings.proofs.Said.{next_open}
use Rattle.trac_warnings.proofs.watch.calls.warn_of_open_calls.Goals as goal

pub loop-call-preserved : goal.loop-call-preserved
loop-call-preserved g c =
    let i = c.loop-call.invariant in
    record {
      kept = kept_more _ _ _ i.kept c.warn.ensures.kept;
      said = next_open _ _ _ _ c.loop-call.call-index _ c.args.calls.now c.loop-call-test.true c.in_ok-warn.ensures.said i.said;
    }
