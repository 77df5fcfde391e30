use Rattle.trac_image.proofs.Imports.{◌∙◌, arith, length, length-map, page}
use Rattle.trac_space.specs.Texts.{character_of, text_of_cells}
use Rattle.trac_image.proofs.Pages.{characters-wrote}
use Rattle.trac_image.proofs.saving.put_characters.Goals as goal

pub loop-place-preserved : goal.loop-place-preserved
loop-place-preserved c =
    let cells = c.run-run.result.now in
    let end = c.body_len-end.ensures in
    record {
      below = omega (arith, c.run-run.ensures.few, end.value);
      wrote = characters-wrote c.args.form.now.body c.loop-place.place (length cells) (text_of_cells cells) c.run-run.ensures.items (length-map cells character_of) (λ less. c.run-run.ensures.stop (omega (arith, less, end.value))) (page c.loop-place.at c.loop-place.room) _ c.put_cells-at.ensures ∙ c.loop-place.invariant.wrote;
    }
