use Rattle.trac_core.proofs.Imports.{◌∙◌, All, sym, ap, subst, slice_range, IsByte, text_of_cells, arith}
use Rattle.trac_functions.proofs.ArgumentLemmas.{bytes-seen, length-seen, text_of_cells-seen}
use Rattle.trac_core.proofs.RuleRows.{whole-range}
use Rattle.trac_core.proofs.scan.characters.Goals as goal

pub returns-clause-text : goal.returns-clause-text
returns-clause-text c =
    let cells = c.args.work.now.active in
    let whole = c.active_part.ensures ∙ ap (slice_range cells 0) c.active_len.ensures.value ∙ whole-range cells in
    sym (text_of_cells-seen c.active_part.result.now) ∙ ap text_of_cells whole

pub returns-clause-bytes : goal.returns-clause-bytes
returns-clause-bytes c =
    let cells = c.args.work.now.active in
    let whole = c.active_part.ensures ∙ ap (slice_range cells 0) c.active_len.ensures.value ∙ whole-range cells in
    bytes-seen c.active_part.result.now (subst (All IsByte) (sym whole) c.requires.sound.active)

pub returns-clause-few : goal.returns-clause-few
returns-clause-few c =
    let cells = c.args.work.now.active in
    let whole = c.active_part.ensures ∙ ap (slice_range cells 0) c.active_len.ensures.value ∙ whole-range cells in
    omega (arith, length-seen c.active_part.result.now cells whole, c.requires.sound.fits, c.requires.sound.bounded)
