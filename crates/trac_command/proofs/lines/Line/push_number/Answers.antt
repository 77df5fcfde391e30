use Rattle.std.proofs.Common.{arith, ap, length, ◌∙◌}
use Rattle.trac_command.proofs.OneLine.{one_line-decimal, length-decimal_step}
use Rattle.trac_command.proofs.lines.Line.push_number.Goals as goal

pub push-requires-clause-fits : goal.push-requires-clause-fits
push-requires-clause-fits c =
    let text = ap length (c.as_bytes.ensures.value ∙ c.format.ensures.text) in
    let short = length-decimal_step c.args.n c.requires.small in
    omega arith

pub push-requires-clause-one_line : goal.push-requires-clause-one_line
push-requires-clause-one_line c =
    rw (c.as_bytes.ensures.value, c.format.ensures.text) (one_line-decimal c.args.n (omega arith))

pub returns-clause-long : goal.returns-clause-long
returns-clause-long c =
    let text = ap length (c.as_bytes.ensures.value ∙ c.format.ensures.text) in
    let short = length-decimal_step c.args.n c.requires.small in
    omega arith
