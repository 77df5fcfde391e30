use Rattle.trac_store.proofs.Imports.{◌<◌, ◌-◌, ◌∙◌, ap, arith, is_call}
use Rattle.trac_space.specs.Tags.{takes_tag}
use Rattle.trac_store.proofs.TaggedBorders.{up-to-next, text-borders, cell-is, here-is, in-neutral, tagged-all}
use Rattle.trac_store.proofs.borders.tag_borders.Goals as goal

pub next_border-border-requires-clause-borders : goal.next_border-border-requires-clause-borders
next_border-border-requires-clause-borders c =
    text-borders c.args.space.now c.loop-count.space _ _ _ _ c.requires.text_part c.loop-count.invariant (omega (arith, c.loop-count-test.true)) c.neutral_part-text.result.now c.neutral_part-text.ensures

-- the cell is a character
pub tagged-requires-clause-takes : goal.tagged-requires-clause-takes
tagged-requires-clause-takes c =
    let old = c.args.space.now in
    let now = c.loop-count.space in
    let less : c.loop-count.count < c.args.part.to - c.args.part.from = omega (arith, c.loop-count-test.true) in
    ap takes_tag (cell-is old now _ _ _ _ c.requires.text_part c.loop-count.invariant less c.neutral_part-text.result.now c.neutral_part-text.ensures ∙ here-is old now _ _ _ _ c.requires.text_part c.loop-count.invariant less c.neutral_part-text.result.now c.neutral_part-text.ensures)

pub write_neutral-requires-clause-for_no_call : goal.write_neutral-requires-clause-for_no_call
write_neutral-requires-clause-for_no_call c =
    let old = c.args.space.now in
    let now = c.loop-count.space in
    let less : c.loop-count.count < c.args.part.to - c.args.part.from = omega (arith, c.loop-count-test.true) in
    ap is_call (in-neutral old now _ _ _ _ c.requires.text_part c.loop-count.invariant less c.neutral_part-text.result.now c.neutral_part-text.ensures ∙ here-is old now _ _ _ _ c.requires.text_part c.loop-count.invariant less c.neutral_part-text.result.now c.neutral_part-text.ensures)

pub loop-count-preserved : goal.loop-count-preserved
loop-count-preserved c =
    up-to-next c.args.space.now c.loop-count.space _ _ _ _ c.requires.text_part c.loop-count.invariant (omega (arith, c.loop-count-test.true)) c.neutral_part-text.result.now c.neutral_part-text.ensures c.write_neutral.new.self c.next_border-border.result c.tagged.result c.next_border-border.ensures c.tagged.ensures.untagged c.tagged.ensures.tag_of c.write_neutral.ensures

pub returns-clause-tagged : goal.returns-clause-tagged
returns-clause-tagged c =
    tagged-all c.args.space.now c.loop-count.space c.args.part.from c.args.part.to c.loop-count.count c.loop-count.border c.requires.text_part c.loop-count.invariant (omega (arith, c.loop-count-test.false))
