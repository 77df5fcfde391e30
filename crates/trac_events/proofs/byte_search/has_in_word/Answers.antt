use Rattle.std.specs.Prelude.{slice_index}
use Rattle.trac_events.proofs.SoughtBytes.{in-word}
use Rattle.trac_events.proofs.byte_search.has_in_word.Goals as goal

pub returns : goal.returns
returns g c =
    let text = c.args.text.now in
    in-word (g.S.Sought.seeks c.args.sought.now) text c.others.result c.requires
    (c.others.ensures (λ k. slice_index text k) (λ k. (c.type_inv.text k).fits) c.word.ensures)
