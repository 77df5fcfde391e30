use Rattle.std.proofs.Common.{arith, length}
use Rattle.std.proofs.lemmas.List.Edits.{length-between}
use Rattle.trac_space.proofs.Stops.{front-of_part, none-more}
use Rattle.trac_events.proofs.byte_search.count_far.Goals as goal

pub returns-clause-before : goal.returns-clause-before
returns-clause-before g c =
    let text = c.args.text.now in
    let done = c.count_blocks-done.result in
    let front = front-of_part text done (length text) c.count_words.result
    (omega (arith, c.count_words.ensures.within, length-between text done (length text) (omega arith))) in
    none-more _ text done _ c.count_blocks-done.ensures.before (rw front at c.count_words.ensures.before)
