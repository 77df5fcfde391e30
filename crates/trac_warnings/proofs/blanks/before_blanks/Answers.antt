use Rattle.std.proofs.Common.{◌∙◌, sym}
use Rattle.trac_warnings.proofs.Trimming.{solid}
use Rattle.trac_warnings.proofs.blanks.before_blanks.Goals as goal

pub returns-in-len1-up : goal.returns-in-len1-up
returns-in-len1-up c =
    solid c.args.cells.now c.in-len1-up.len_at_least (sym c.is_blank.ensures ∙ c.if-not-is_blank.true)
