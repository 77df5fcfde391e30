use Rattle.std.proofs.Common.{◌+◌, ◌∙◌, arith, sym}
use Rattle.trac_space.proofs.Stops.{none-next}
use Rattle.trac_events.proofs.byte_search.count_blocks.Goals as goal

pub loop-done-preserved : goal.loop-done-preserved
loop-done-preserved g c =
    let done = c.loop-done.done in
    record {
      within = omega (arith, c.loop-done-test.true);
      none = none-next _ c.args.text.now done (done + 32) (omega arith) c.loop-done.invariant.none
          (sym c.has_in_block.ensures ∙ c.if-not-has_in_block.true);
    }
