use Rattle.trac_events.proofs.Imports.{◌∙◌, ◌-◌, ◌+◌, ap, from_argument}
use Rattle.trac_events.proofs.NextArgument.{next_argument}
use Rattle.trac_events.proofs.call.from_argument.Goals as goal

pub loop-before-preserved : goal.loop-before-preserved
loop-before-preserved c =
    let rest = c.loop-before.rest.now in
    ap (λ cells. from_argument cells (c.args.k - (c.loop-before._before + 1))) c.behind_comma-rest.ensures
    ∙ next_argument rest c.loop-before._before c.args.k c.loop-before-test.true
    ∙ c.loop-before.invariant
