use Rattle.trac_space.proofs.Characters.{bytes-join}
use Rattle.trac_space.proofs.Imports.{arith}
use Rattle.trac_space.proofs.character_runs.characters_from.Goals as goal

pub returns-then-more-lt-BLOCK-clause-bytes : goal.returns-then-more-lt-BLOCK-clause-bytes
returns-then-more-lt-BLOCK-clause-bytes c =
    bytes-join c.args.cells.now c.args.start c.loop-count.count _ c.loop-count.invariant.bytes c.characters_each-more.ensures.bytes

pub loop-count-preserved : goal.loop-count-preserved
loop-count-preserved c = record {
  within = omega arith;
  bytes = bytes-join c.args.cells.now c.args.start c.loop-count.count _ c.loop-count.invariant.bytes c.characters_each-more.ensures.bytes;
}

pub returns-clause-bytes : goal.returns-clause-bytes
returns-clause-bytes c =
    bytes-join c.args.cells.now c.args.start c.loop-count.count _ c.loop-count.invariant.bytes c.characters_each.ensures.bytes
