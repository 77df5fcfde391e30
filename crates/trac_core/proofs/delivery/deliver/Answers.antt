use Rattle.trac_core.proofs.Imports.{drop, ◌∙◌, arith, mode_at}
use Rattle.trac_core.proofs.Performing.{moved-delivered}
use Rattle.trac_core.proofs.delivery.deliver.Goals as goal

pub returns-clause-delivered : goal.returns-clause-delivered
returns-clause-delivered c =
    let old = c.args.work.now in
    c.move_value.ensures.moved
    ∙ moved-delivered (mode_at old.neutral c.args.place) c.is_scanned_again-scanned.result (drop c.args.from old.neutral) c.args.place c.args.from old c.requires.value (omega arith) c.is_scanned_again-scanned.ensures
