use Rattle.trac_space.proofs.Imports.{◌≡◌, ◌+◌, ap, ◌∙◌, arith, copy_within}
use Rattle.trac_space.proofs.Blocks.{carried-on, carried-last}
use Rattle.trac_space.proofs.copies.copy_lower_by_blocks.Goals as goal

pub loop-done-preserved : goal.loop-done-preserved
loop-done-preserved c =
    let done = c.loop-done.done in
    let end : c.args.start + done + 8 ≡ c.args.start + (done + 8) = omega arith in
    let moved = c.copy_at_once.ensures.after ∙ ap (λ j. copy_within c.loop-done.cells (c.args.start + done) j (c.args.to + done)) end in
    record {
      within = omega arith;
      copied = carried-on c.args.cells.now c.loop-done.cells c.copy_at_once.new.cells c.args.start c.args.to done 8 (omega arith) (omega arith) c.loop-done.invariant.copied moved;
    }

pub returns-clause-after : goal.returns-clause-after
returns-clause-after c =
    carried-last c.args.cells.now c.loop-done.cells c.copy_at_once-2.new.cells c.args.start c.args.to c.loop-done.done 8 c.args.n (omega arith) (omega arith) (omega arith) c.loop-done.invariant.copied c.copy_at_once-2.ensures.after
