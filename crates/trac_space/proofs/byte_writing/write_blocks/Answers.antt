use Rattle.trac_space.proofs.Imports.{◌≡◌, ◌+◌, ◌-◌, ◌≤◌, length, refl, arith, put_mid, written_up_to}
use Rattle.trac_space.proofs.ByteBlocks.{block-more, block-up_to, long-up_to, block-long}
use Rattle.trac_space.proofs.byte_writing.write_blocks.Goals as goal

pub loop-i-preserved : goal.loop-i-preserved
loop-i-preserved c =
    let text = c.args.text.now in
    let was = c.args.cells.now in
    let i = c.loop-i.i in
    let n = length text in
    let all : i + 16 ≤ n = omega (arith, c.loop-i-test.true) in
    let half : i + 8 ≤ n = omega (arith, all) in
    let first = c.write_block.new.cells in
    let second = c.write_block-in-loop-i.new.cells in
    let made = c.write_block.ensures in
    let more = c.write_block-in-loop-i.ensures in
    let middle = put_mid i (i + 8 - i) c.loop-i.cells first in
    let next : i + 16 ≡ i + 8 + 8 = omega arith in
    let middle_is : middle ≡ written_up_to (i + 8) text was = block-up_to text was c.loop-i.cells first i c.requires (i + 8) refl half c.loop-i.invariant.written made in
    let middle_long : length middle ≡ n = long-up_to c.loop-i.cells first i (i + 8) n refl c.loop-i.invariant.same half (block-long text first i (i + 8) refl half made) in
    record {
      within = all;
      same = long-up_to middle second (i + 8) (i + 16) n next middle_long all (block-long text second (i + 8) (i + 16) next all more);
      written = block-up_to text was middle second (i + 8) c.requires (i + 16) next all middle_is more;
    }

pub returns-clause-written : goal.returns-clause-written
returns-clause-written c =
    block-more c.args.text.now c.args.cells.now c.loop-i.cells c.write_block-2.new.cells c.loop-i.i c.requires (omega arith) c.loop-i.invariant.written c.write_block-2.ensures
