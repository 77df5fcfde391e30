use Rattle.trac_values.proofs.Imports.{ap, sym, ◌∙◌, ◌≡◌, ◌+◌, ◌*◌, ◌-◌, min, take, digits_value, text_of_cells}
use Rattle.trac_values.proofs.Suffixes.{digit_at, value_more}
use Rattle.trac_values.proofs.LongNumbers.{limited_more}
use Rattle.trac_values.proofs.counts.value_up_to.Goals as goal

pub overflow_sub-character_of : goal.overflow_sub-character_of
overflow_sub-character_of c =
    (digit_at c.args.digits.now c.loop-cell.cell-index _ c.loop-cell-test.true c.character_of.ensures c.requires.digits).0

pub loop-cell-preserved : goal.loop-cell-preserved
loop-cell-preserved c =
    let i = c.loop-cell.cell-index in
    let digit = c.character_of.result - 48 in
    let v = digits_value 10 (take i (text_of_cells c.args.digits.now)) in
    let more = value_more c.args.digits.now i c.character_of.result c.loop-cell-test.true c.character_of.ensures c.requires.digits in
    let step : c.min-value.result ≡ min (c.loop-cell.value * 10 + digit) c.args.limit = cc in
    step
    ∙ ap (λ n. min (n * 10 + digit) c.args.limit) c.loop-cell.invariant
    ∙ limited_more v digit c.args.limit
    ∙ ap (λ n. min n c.args.limit) (sym more)
