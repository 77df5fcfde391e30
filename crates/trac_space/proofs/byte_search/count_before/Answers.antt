use Rattle.trac_space.proofs.Imports.{length, arith, length-between}
use Rattle.trac_space.proofs.Stops.{none-more, front-of_part, get-of_part}
use Rattle.trac_space.proofs.byte_search.count_before.Goals as goal

pub returns-clause-before : goal.returns-clause-before
returns-clause-before c =
    let text = c.args.text.now in
    let done = c.count_blocks-done.result in
    let front = front-of_part text done (length text) c.count_each.result (omega (arith, c.count_each.ensures.within, length-between text done (length text) (omega arith))) in
    none-more _ text done _ c.count_blocks-done.ensures.before (rw front at c.count_each.ensures.before)

pub returns-clause-stops : goal.returns-clause-stops
returns-clause-stops c = λ less.
    let text = c.args.text.now in
    let stops = c.count_each.ensures.stops (omega (arith, less, length-between text c.count_blocks-done.result (length text) (omega arith))) in
    get-of_part text c.count_blocks-done.result (length text) _ _ less (omega arith) stops
