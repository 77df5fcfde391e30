use Rattle.trac_values.proofs.Imports.{sym, arith, text_of_cells}
use Rattle.trac_values.proofs.Texts.{length-text}
use Rattle.trac_values.proofs.DigitBits.{union_at, union_past}
use Rattle.trac_values.proofs.bit_string.union_digit.Goals as goal

pub returns-then-place-long : goal.returns-then-place-long
returns-then-place-long c =
    let t = text_of_cells c.args.a.now in
    let u = text_of_cells c.args.b.now in
    sym (union_past t u c.max-long.result (omega (arith, length-text)) c.args.k (omega (arith, length-text)))

pub returns : goal.returns
returns c =
    sym (union_at _ _ c.max-long.result (omega (arith, length-text)) c.args.k c.aligned_digit.result c.aligned_digit-2.result (omega (arith, length-text)) c.aligned_digit.ensures.digit c.aligned_digit-2.ensures.digit c.aligned_digit.ensures.octal c.aligned_digit-2.ensures.octal)
