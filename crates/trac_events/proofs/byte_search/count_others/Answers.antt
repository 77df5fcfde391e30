use Rattle.std.proofs.Common.{◌∙◌, ap, arith, length, sym}
use Rattle.std.proofs.lemmas.List.{take-take}
use Rattle.std.specs.List.{list_any}
use Rattle.std.proofs.lemmas.List.Edits.{length-between}
use Rattle.trac_space.proofs.Stops.{front-of_part, none-more}
use Rattle.trac_events.proofs.SoughtBytes.{length_take}
use Rattle.trac_events.proofs.byte_search.count_others.Goals as goal

pub returns-clause-before : goal.returns-clause-before
returns-clause-before g c =
    let text = c.args.text.now in
    let near = c.count_words-near.result in
    let head = take-take near c.min.result text
    (omega (arith, c.count_words-near.ensures.within, length_take c.min.result text)) in
    let front = front-of_part text near (length text) c.count_far.result
    (omega (arith, c.count_far.ensures.within, length-between text near (length text) (omega arith))) in
    none-more _ text near _ (ap (list_any (g.S.Sought.seeks c.args.sought.now)) (sym head)
    ∙ c.count_words-near.ensures.before) (rw front at c.count_far.ensures.before)
