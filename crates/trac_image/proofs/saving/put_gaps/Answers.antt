use Rattle.trac_image.proofs.Imports.{◌+◌, ◌∙◌, ap, arith, length, length-map, page, sym, wrote}
use Rattle.trac_space.specs.Texts.{character_of, text_of_cells}
use Rattle.trac_image.proofs.Pages.{gap-wrote, gaps-behind}
use Rattle.trac_image.proofs.saving.put_gaps.Goals as goal

pub loop-place-preserved : goal.loop-place-preserved
loop-place-preserved c =
    let body = c.args.form.now.body in
    let cells = c.run.result.now in
    let place = c.loop-place.place in
    let end = c.body_len-end.ensures in
    let at = page c.loop-place.at c.loop-place.room in
    let behind = gaps-behind body place (length cells) (text_of_cells cells) c.run.ensures.items (length-map cells character_of) in
    record {
      below = omega (arith, c.run.ensures.few, end.value);
      wrote = gap-wrote body (place + length cells) (λ less. c.run.ensures.stop (omega (arith, less, end.value))) (length cells) c.item.result at _ c.item.ensures c.put_gap-at.ensures ∙ ap (λ t. wrote t at) (sym behind) ∙ c.loop-place.invariant.wrote;
    }
