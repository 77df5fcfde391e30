use Rattle.trac_image.proofs.Imports.{◌∙◌, ap, refl, sym, four_bytes, gap_bytes, length, length-map, page, text_of, wrote}
use Rattle.trac_space.specs.Texts.{character_of}
use Rattle.trac_image.proofs.Pages.{form-wrote, wrote-then}
use Rattle.trac_image.proofs.saving.put_form.Goals as goal

pub returns : goal.returns
returns c =
    let form = c.args.form.now in
    let long = sym (length-map c.name.result.now character_of) ∙ ap length c.name.ensures in
    let named = wrote-then (ap four_bytes long) c.put_number-name.ensures refl in
    let bodied = wrote-then (ap four_bytes (c.from.ensures ∙ c.body_len.ensures.value)) c.put_number-body.ensures named in
    let counted = wrote-then (ap four_bytes (c.from-2.ensures ∙ c.count_characters.ensures)) c.put_number-characters.ensures bodied in
    let pointed = wrote-then (ap four_bytes (c.from-3.ensures ∙ c.pointer.ensures.value)) c.put_number-heads.ensures counted in
    c.put_gaps.ensures ∙ ap (wrote (gap_bytes 0 form.body)) (c.put_characters-text.ensures ∙ ap (wrote (text_of form.body)) (wrote-then c.name-2.ensures c.put_cells-named.ensures pointed)) ∙ form-wrote form (page c.args.at c.args.room.now)
