use Rattle.trac_core.proofs.Imports.{◌≡◌, ◌+◌, ◌∙◌, ap, sym, subst, true, length, length-map, arith, text_of_cells}
use Rattle.trac_space.specs.Texts.{character_of}
use Rattle.trac_forms.specs.Search.{gap_at}
use Rattle.trac_core.proofs.FormDisplay.{show-run, item-shown, run-some}
use Rattle.trac_core.proofs.display.next_len.Goals as goal

pub returns-then-is_byte-clause-further : goal.returns-then-is_byte-clause-further
returns-then-is_byte-clause-further c =
    let body = c.args.form.now.body in
    let place = c.args.place in
    let size = length c.run.result.now in
    let byte = sym c.is_byte.ensures ∙ c.if-is_byte.true in
    let some = run-some body place size c.item-item.result c.item-item.ensures byte c.requires
    (λ none. subst (λ n. gap_at body n ≡ true) (let same : place + size ≡ place = omega (arith, none) in same) (c.run.ensures.stop (omega (arith, none, c.requires, c.body_len-end.ensures.value)))) in
    (omega (arith, some), omega (arith, c.run.ensures.few, c.body_len-end.ensures.value))

pub returns-then-is_byte-clause-length : goal.returns-then-is_byte-clause-length
returns-then-is_byte-clause-length c =
    let cells = c.run.result.now in
    sym (ap length (show-run c.args.form.now.body c.args.place (c.args.place + length cells) (text_of_cells cells) c.run.ensures.items) ∙ length-map cells character_of)

pub returns-clause-length : goal.returns-clause-length
returns-clause-length c =
    c.item_len.ensures.length ∙ sym (ap length (item-shown c.args.form.now.body c.args.place c.item-item.result c.item-item.ensures c.requires))
