use Rattle.std.proofs.Common.{◌∙◌, sym, drop}
use Rattle.trac_space.specs.Texts.{text_of_cells}
use Rattle.trac_warnings.proofs.NextNames.{nothing_behind}
use Rattle.trac_warnings.proofs.names.behind_name.Goals as goal

pub returns-in_default : goal.returns-in_default
returns-in_default c =
    sym (nothing_behind (text_of_cells (drop c.loop-cell.cell-index c.args.name.now)) c.loop-cell.rest.now c.in_default.len_below) ∙ c.loop-cell.invariant
