use Rattle.trac_values.proofs.Imports.{rules, length-map, character_of}
use Rattle.trac_values.proofs.number.short_result.Goals as goal

pub overflow_cast-result : goal.overflow_cast-result
overflow_cast-result c =
    let start = c.tail_of_few-start.ensures.start in
    let few = c.requires.left in
    let long = length-map c.args.a.now character_of in
    search (rules, start, few, long)
