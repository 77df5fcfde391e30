use Rattle.trac_core.proofs.Imports.{◌∙◌, sym, ap, slice_range, neutral_of}
use Rattle.trac_core.proofs.RuleRows.{neutral_of-seen, whole-range}
use Rattle.trac_core.proofs.machine.Machine.neutral.Goals as goal

pub returns : goal.returns
returns c =
    let cells = c.self.inside.work.neutral in
    let whole = c.neutral_part.ensures ∙ ap (slice_range cells 0) c.neutral_len.ensures.value ∙ whole-range cells in
    rw (← c.self.view_is) (sym (neutral_of-seen c.neutral_part.result.now) ∙ ap neutral_of whole)
