use Rattle.trac_functions.proofs.Imports.{ap, ◌+◌, arith, found-comma}
use Rattle.trac_functions.proofs.ArgumentLemmas.{next-fits, last-long}
use Rattle.trac_functions.proofs.arguments.Arguments.end_of_next.Goals as goal

pub overflow_add-result : goal.overflow_add-result
overflow_add-result c =
    let e = found-comma _ _ _ c.neutral_part.ensures c.before_comma.ensures in
    let fits = next-fits c.args.work.now c.args.self.now c.before_comma.result c.requires.arguments c.requires.some e in
    omega arith

pub returns-then-self-no_comma_from : goal.returns-then-self-no_comma_from
returns-then-self-no_comma_from c = last-long c.args.work.now c.args.self.now c.requires.arguments c.requires.some c.no_comma_from.result (omega arith) c.no_comma_from.ensures

pub returns : goal.returns
returns c = ap (λ n. c.args.self.now.from + n) (found-comma _ _ _ c.neutral_part.ensures c.before_comma.ensures)
