use Rattle.std.proofs.Common.{◌∙◌, sym, ap}
use Rattle.trac_space.specs.Texts.{text_of_cells}
use Rattle.trac_warnings.specs.Gaps.{begins}
use Rattle.trac_warnings.proofs.NextNames.{next_place, taken_whole}
use Rattle.trac_warnings.proofs.gaps.stands_in.Goals as goal

pub loop-i-preserved : goal.loop-i-preserved
loop-i-preserved c =
    let text = text_of_cells c.args.text.now in
    let items = c.args.items.now in
    let i = c.loop-i.i in
    let other = sym (c.begins.ensures ∙ ap (begins text) (taken_whole items i)) ∙ c.if-begins.false in
    next_place text items i c.loop-i-test.true other ∙ c.loop-i.invariant
