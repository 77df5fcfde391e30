use Rattle.std.proofs.lemmas.List.{drop-map}
use Rattle.std.proofs.lemmas.Option.{unwrap_or-slice_get}
use Rattle.std.specs.Prelude.{unwrap_or}
use Rattle.trac_c.proofs.Imports.{◌∙◌, [], sym, ap, drop, length, length-map, laid, character_of, text_of_cells}
use Rattle.trac_core.specs.OpenCalls.{next_texts}
use Rattle.trac_c.proofs.forms.lay_string.Goals as goal

pub returns-in-Some : goal.returns-in-Some
returns-in-Some c =
    let from = c.args.from in
    let argument = sym (unwrap_or-slice_get (next_texts c.args.machine.now) 1 []) ∙ ap (λ o. unwrap_or o []) c.in-Some.ensures.argument in
    let text = ap text_of_cells c.cells_from.ensures ∙ sym (drop-map character_of from c.in-Some.text.now) ∙ ap (drop from) (sym argument) in
    record {
      length = c.lay_characters.ensures.length ∙ sym (length-map c.cells_from.result.now character_of) ∙ ap (λ t. length t) text;
      laid = c.lay_characters.ensures.laid ∙ ap (λ t. laid t c.args.room.now) text;
    }
