use Rattle.std.proofs.lemmas.List.{drop-map}
use Rattle.trac_c.proofs.Imports.{◌∙◌, sym, ap, drop, length, laid, character_of, text_of_cells}
use Rattle.trac_c.proofs.strings.lay_active.Goals as goal

pub returns : goal.returns
returns c =
    let from = c.args.from in
    let text = ap text_of_cells c.cells_from.ensures ∙ sym (drop-map character_of from c.active.result.now) ∙ ap (drop from) c.active.ensures in
    record {
      length = c.lay_characters.ensures.length ∙ ap (λ t. length t) text;
      laid = c.lay_characters.ensures.laid ∙ ap (λ t. laid t c.args.room.now) text;
    }
