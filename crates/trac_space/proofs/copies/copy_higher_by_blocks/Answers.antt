use Rattle.trac_space.proofs.Imports.{◌≡◌, ◌+◌, ◌-◌, ap, ◌∙◌, arith, copy_within}
use Rattle.trac_space.proofs.Blocks.{copied-up, cleared-last}
use Rattle.trac_space.proofs.copies.copy_higher_by_blocks.Goals as goal

pub loop-left-preserved : goal.loop-left-preserved
loop-left-preserved c =
    let left = c.loop-left.left in
    let start = c.args.start in
    let end : start + (left - 8) + 8 ≡ start + left = omega arith in
    let moved = c.copy_at_once.ensures.after ∙ ap (λ j. copy_within c.loop-left.cells (start + (left - 8)) j (c.args.to + (left - 8))) end in
    record {
      some = omega arith;
      within = omega arith;
      copied = copied-up c.args.cells.now c.loop-left.cells _ start c.args.to c.args.n left 8 (omega arith) (omega arith) c.loop-left.invariant.within (omega arith) c.loop-left.invariant.copied moved;
    }

pub returns-clause-after : goal.returns-clause-after
returns-clause-after c =
    cleared-last c.args.cells.now c.loop-left.cells c.copy_at_once-2.new.cells c.args.start c.args.to c.loop-left.left 8 c.args.n (omega arith) (omega arith) (omega arith) (omega arith) c.loop-left.invariant.copied c.copy_at_once-2.ensures.after
