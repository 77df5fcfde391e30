use Rattle.std.proofs.Common.{◌+◌, ◌-◌, ◌∙◌, ap, arith, drop, length, sym}
use Rattle.std.proofs.lemmas.List.{length-drop, take_all}
use Rattle.trac_events.specs.ByteSearch.{len_before}
use Rattle.trac_events.proofs.SoughtBytes.{len-behind}
use Rattle.trac_events.proofs.byte_search.count_before.Goals as goal

pub returns-clause-value : goal.returns-clause-value
returns-clause-value g c =
    let text = c.args.text.now in
    let done = c.count_others-done in
    let wants = g.S.Sought.seeks c.args.sought.now in
    ap (λ n. done.result + n) (c.count_each.ensures.value
    ∙ ap (len_before wants) (take_all (length text - done.result) (drop done.result text)
    (omega (arith, length-drop done.result text))))
    ∙ sym (len-behind wants done.result text done.ensures.within done.ensures.before)
