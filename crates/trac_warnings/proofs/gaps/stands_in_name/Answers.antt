use Rattle.std.proofs.Common.{◌∙◌, sym, ap}
use Rattle.trac_space.specs.Texts.{text_of_cells}
use Rattle.trac_warnings.specs.Gaps.{begins_in_name, behind_opening}
use Rattle.trac_warnings.proofs.NextNames.{next_name, taken_whole}
use Rattle.trac_warnings.proofs.gaps.stands_in_name.Goals as goal

pub loop-i-preserved : goal.loop-i-preserved
loop-i-preserved c =
    let text = text_of_cells c.args.text.now in
    let items = c.args.items.now in
    let i = c.loop-i.i in
    let behind = c.behind_opening.ensures ∙ ap behind_opening (taken_whole items i) in
    let other = sym (c.begins_in_name.ensures ∙ ap (begins_in_name text) behind) ∙ c.if-begins_in_name.false in
    next_name text items i c.loop-i-test.true other ∙ c.loop-i.invariant
