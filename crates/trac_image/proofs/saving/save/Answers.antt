use Rattle.trac_image.proofs.Imports.{◌∙◌, ◌<◌, ◌∷◌, [], ap, arith, cells, flat_map, form_image, four_bytes, length, no_sums, page, Page}
use Rattle.trac_image.proofs.Pages.{content-wrote, wrote-then, image-laid, image-len}
use Rattle.trac_image.proofs.saving.save.Goals as goal

pub returns : goal.returns
returns c =
    let m = c.args.machine.now.memory in
    let room = c.args.room.now in
    let few : cells m.forms < 4294967296 = omega (arith, c.size.ensures) in
    let empty : Page = record { room = room; len = 0; sums = no_sums } in
    let whole = page c.put_forms-content.result c.put_forms-content.new.room in
    let marked = wrote-then (ap (λ b. b ∷ []) c.meta.ensures) c.put_byte-meta.ensures c.put_text-head.ensures in
    let counted = wrote-then (ap four_bytes (c.from.ensures ∙ c.len.ensures ∙ ap length c.forms-forms.ensures)) c.put_number-count.ensures marked in
    let written = wrote-then (ap (flat_map form_image) c.forms-forms.ensures) c.put_forms-content.ensures counted ∙ content-wrote m.forms m.meta empty in
    let last = page c.put_sums.result c.put_sums.new.room in
    record {
      length = image-len m.forms m.meta room whole last few written c.put_sums.ensures;
      laid = image-laid m.forms m.meta room whole last few written c.put_sums.ensures;
    }
