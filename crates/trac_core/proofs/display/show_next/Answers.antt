use Rattle.trac_core.proofs.Imports.{◌≡◌, ◌+◌, ◌++◌, ◌∙◌, ◌<◌, ap, sym, subst, true, length, arith, text_of_cells}
use Rattle.trac_forms.specs.Search.{gap_at}
use Rattle.trac_core.proofs.FormDisplay.{match-err, show-run, run-broken, run-some, item-shown, item-broken}
use Rattle.trac_core.proofs.display.show_next.Goals as goal

pub returns-in_err-put_characters-clause-prints : goal.returns-in_err-put_characters-clause-prints
returns-in_err-put_characters-clause-prints g c = λ told.
    let cells = c.run-run.result.now in
    match-err c.from_residual.result _ _ c.from_residual.ensures.0
    (run-broken c.args.form.now.body c.args.place (c.args.place + length cells) (text_of_cells cells) c.run-run.ensures.items _ _ c.args.to (omega arith) c.run-run.ensures.few
    (rw (← c.new.ensures) (c.in_err-put_characters.ensures.prints told)))

pub returns-then-is_byte-clause-further : goal.returns-then-is_byte-clause-further
returns-then-is_byte-clause-further g c =
    let body = c.args.form.now.body in
    let place = c.args.place in
    let size = length c.run-run.result.now in
    let byte = sym c.is_byte.ensures ∙ c.if-is_byte.true in
    let within : place < length body = omega (arith, c.requires.order, c.requires.within) in
    let some = run-some body place size c.item-item.result c.item-item.ensures byte within
    (λ none. subst (λ n. gap_at body n ≡ true) (let same : place + size ≡ place = omega (arith, none) in same) (c.run-run.ensures.stop (omega (arith, none, c.requires.order)))) in
    (omega (arith, some), omega (arith, c.run-run.ensures.few))

pub returns-then-is_byte-clause-prints : goal.returns-then-is_byte-clause-prints
returns-then-is_byte-clause-prints g c = λ told.
    let cells = c.run-run.result.now in
    c.in_ok-put_characters.ensures.prints told
    ∙ ap (λ t. g.O.Sink.written c.args.sink.now ++ t) (c.new.ensures ∙ sym (show-run c.args.form.now.body c.args.place (c.args.place + length cells) (text_of_cells cells) c.run-run.ensures.items))

pub returns-in_err-show_item-clause-prints : goal.returns-in_err-show_item-clause-prints
returns-in_err-show_item-clause-prints g c = λ told.
    match-err c.from_residual-in_err-show_item.result _ _ c.from_residual-in_err-show_item.ensures.0
    (item-broken c.args.form.now.body c.args.place c.item-item.result c.item-item.ensures _ _ c.args.to c.requires.order c.requires.within (c.in_err-show_item.ensures.prints told))

pub returns-clause-prints : goal.returns-clause-prints
returns-clause-prints g c = λ told.
    let within : c.args.place < length c.args.form.now.body = omega (arith, c.requires.order, c.requires.within) in
    c.in_ok-show_item.ensures.prints told
    ∙ ap (λ t. g.O.Sink.written c.args.sink.now ++ t) (sym (item-shown c.args.form.now.body c.args.place c.item-item.result c.item-item.ensures within))
