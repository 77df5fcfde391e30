use Rattle.trac_image.proofs.Imports.{arith, length, length-map}
use Rattle.trac_space.specs.Texts.{character_of, text_of_cells}
use Rattle.trac_image.proofs.Pages.{characters-counted, length-text_of}
use Rattle.trac_image.proofs.saving.count_characters.Goals as goal

pub overflow_add-count : goal.overflow_add-count
overflow_add-count c =
    let body = c.args.form.now.body in
    let cells = c.run.result.now in
    let end = c.body_len-end.ensures in
    let more = characters-counted body c.loop-place.place (length cells) (text_of_cells cells) c.run.ensures.items (length-map cells character_of) (λ less. c.run.ensures.stop (omega (arith, less, end.value))) in
    omega (arith, more, c.loop-place.invariant.counted, length-text_of body, end.value, end.bounded)

pub loop-place-preserved : goal.loop-place-preserved
loop-place-preserved c =
    let cells = c.run.result.now in
    let end = c.body_len-end.ensures in
    let more = characters-counted c.args.form.now.body c.loop-place.place (length cells) (text_of_cells cells) c.run.ensures.items (length-map cells character_of) (λ less. c.run.ensures.stop (omega (arith, less, end.value))) in
    record {
      below = omega (arith, c.run.ensures.few, end.value);
      counted = omega (arith, more, c.loop-place.invariant.counted);
    }
