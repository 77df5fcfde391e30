use Rattle.std.proofs.Common.{◌∙◌, sym}
use Rattle.trac_warnings.proofs.PlainNumbers.{plain-use}
use Rattle.trac_warnings.proofs.operands.has_plain_numbers.Goals as goal

pub returns-then-takes_numbers : goal.returns-then-takes_numbers
returns-then-takes_numbers c = λ yes forms.
    let plain = c.are_plain_numbers.ensures in
    plain-use c.args.function forms c.args.ending.now (sym c.takes_numbers.ensures ∙ c.if-takes_numbers.true) (plain.one yes) (plain.other yes) (plain.more yes)
