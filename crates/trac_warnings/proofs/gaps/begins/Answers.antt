use Rattle.std.proofs.Common.{◌∙◌, sym}
use Rattle.trac_warnings.proofs.NextNames.{ends_early}
use Rattle.trac_warnings.proofs.gaps.begins.Goals as goal

pub returns-in_default : goal.returns-in_default
returns-in_default c =
    sym (ends_early c.args.text.now c.loop-cell.cell-index c.loop-cell.rest.now c.loop-cell-test.true c.in_default.len_below) ∙ c.loop-cell.invariant
