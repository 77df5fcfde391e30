use Rattle.trac_forms.proofs.Sweeping.{unmoved}
use Rattle.trac_forms.proofs.marked_forms.move_gap.Goals as goal

pub returns-then-gap-clause-moved : goal.returns-then-gap-clause-moved
returns-then-gap-clause-moved c =
    unmoved c.args.space.now c.args.gap.from c.args.gap.to c.args.from c.if-gap.true c.requires.order
