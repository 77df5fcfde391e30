use Rattle.std.proofs.Common.{◌∙◌, arith, sym}
use Rattle.trac_space.specs.Texts.{text_of_cells}
use Rattle.trac_warnings.proofs.Searched.{stands_here}
use Rattle.trac_warnings.proofs.NextNames.{next_place}
use Rattle.trac_warnings.proofs.gaps.stands_in_rest.Goals as goal

pub returns-then-begins_at : goal.returns-then-begins_at
returns-then-begins_at c =
    let body = c.args.form.now.body in
    let less = c.loop-place-test.true in
    let long = c.body_len-place-end.ensures.value in
    sym (stands_here (text_of_cells c.args.text.now) body c.loop-place.place (omega (arith, less, long)) (sym c.begins_at.ensures ∙ c.if-begins_at.true))
    ∙ c.loop-place.invariant

pub loop-place-preserved : goal.loop-place-preserved
loop-place-preserved c =
    let body = c.args.form.now.body in
    let less = c.loop-place-test.true in
    let long = c.body_len-place-end.ensures.value in
    next_place (text_of_cells c.args.text.now) body c.loop-place.place (omega (arith, less, long)) (sym c.begins_at.ensures ∙ c.if-begins_at.false)
    ∙ c.loop-place.invariant
