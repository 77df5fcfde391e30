use Rattle.trac_functions.proofs.Imports.{sym, ap, ◌∙◌, subst, All, text_of_cells, IsByte}
use Rattle.trac_functions.proofs.ArgumentLemmas.{text_of_cells-seen, bytes-seen, within-room}
use Rattle.trac_functions.proofs.arguments.text.Goals as goal

pub returns-clause-text : goal.returns-clause-text
returns-clause-text c = sym (text_of_cells-seen c.neutral_part.result.now) ∙ ap text_of_cells c.neutral_part.ensures

pub returns-clause-is_text : goal.returns-clause-is_text
returns-clause-is_text c =
    let e = c.neutral_part.ensures in
    let sound = c.used.ensures.sound in (
      bytes-seen c.neutral_part.result.now (subst (All IsByte) (sym e) c.requires.bytes),
      within-room c.args.work.now c.args.part.from c.args.part.to c.neutral_part.result.now sound c.requires e,
    )
