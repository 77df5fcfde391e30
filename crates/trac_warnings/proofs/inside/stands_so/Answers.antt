use Rattle.std.proofs.Common.{◌+◌, ◌∙◌, sym, ap, drop}
use Rattle.trac_space.specs.Texts.{text_of_cells}
use Rattle.trac_warnings.specs.Gaps.{begins_so, stands_so}
use Rattle.trac_warnings.proofs.NextNames.{next_so, taken_whole}
use Rattle.trac_warnings.proofs.inside.stands_so.Goals as goal

pub loop-i-preserved : goal.loop-i-preserved
loop-i-preserved c =
    let text = text_of_cells c.args.text.now in
    let items = c.args.items.now in
    let i = c.loop-i.i in
    let other = sym (c.begins_so.ensures ∙ ap (begins_so c.args.joined c.loop-i.is_behind text) (taken_whole items i)) ∙ c.if-begins_so.false in
    ap (λ b. stands_so c.args.joined b text (drop (i + 1) items)) c.is_of_word-is_behind.ensures
    ∙ next_so c.args.joined c.loop-i.is_behind text items i _ c.loop-i-test.true other ∙ c.loop-i.invariant
