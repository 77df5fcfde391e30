use Rattle.trac_values.proofs.Imports.{arith, length, ◌+◌, ◌-◌}
use Rattle.trac_values.proofs.Suffixes.{digit_at, value_upto_more}
use Rattle.trac_values.proofs.comparing.digit_at.Goals as goal

pub overflow_sub-result : goal.overflow_sub-result
overflow_sub-result c =
    (digit_at c.args.digits.now (c.args.place + length c.args.digits.now - c.args.long) _ (omega arith) c.character_of.ensures c.requires.digits).0

pub returns-else-place-digits-clause-below : goal.returns-else-place-digits-clause-below
returns-else-place-digits-clause-below c =
    let facts = digit_at c.args.digits.now (c.args.place + length c.args.digits.now - c.args.long) c.character_of.result (omega arith) c.character_of.ensures c.requires.digits in
    omega (arith, facts.0, facts.1)

pub returns-else-place-digits-clause-value : goal.returns-else-place-digits-clause-value
returns-else-place-digits-clause-value c =
    value_upto_more c.args.digits.now c.args.long c.args.place c.character_of.result (omega arith) c.requires.place (omega arith) c.character_of.ensures c.requires.digits
