use Rattle.trac_values.proofs.Imports.{ap, sym, ◌∙◌, ◌≡◌, ◌+◌, ◌*◌, ◌-◌, ◌%◌, take, digits_value, text_of_cells}
use Rattle.trac_values.proofs.Suffixes.{digit_at, value_more}
use Rattle.trac_values.proofs.LongNumbers.{rest_more}
use Rattle.trac_values.proofs.counts.remainder_of.Goals as goal

pub overflow_sub-character_of : goal.overflow_sub-character_of
overflow_sub-character_of c =
    (digit_at c.args.digits.now c.loop-cell.cell-index _ c.loop-cell-test.true c.character_of.ensures c.requires.digits).0

pub loop-cell-preserved : goal.loop-cell-preserved
loop-cell-preserved c =
    let i = c.loop-cell.cell-index in
    let digit = c.character_of.result - 48 in
    let v = digits_value 10 (take i (text_of_cells c.args.digits.now)) in
    let more = value_more c.args.digits.now i c.character_of.result c.loop-cell-test.true c.character_of.ensures c.requires.digits in
    let step : (c.loop-cell.rest * 10 + c.from.result) % c.args.divisor ≡ (c.loop-cell.rest * 10 + digit) % c.args.divisor = cc in
    step
    ∙ ap (λ n. (n * 10 + digit) % c.args.divisor) c.loop-cell.invariant
    ∙ rest_more v digit c.args.divisor
    ∙ ap (λ n. n % c.args.divisor) (sym more)
