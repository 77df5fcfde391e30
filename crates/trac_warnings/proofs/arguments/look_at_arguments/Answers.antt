use Rattle.std.proofs.Common.{◌∙◌, sym}
use Rattle.trac_warnings.specs.Gaps.{highest_gap}
use Rattle.trac_warnings.proofs.Keeping.{nothing_said}
use Rattle.trac_warnings.proofs.Surplus.{no_surplus}
use Rattle.trac_warnings.proofs.arguments.look_at_arguments.Goals as goal

pub returns-then-arguments_given-eq0-clause-said : goal.returns-then-arguments_given-eq0-clause-said
returns-then-arguments_given-eq0-clause-said g c =
    let form = c.args.form.now in
    nothing_said _ _ (no_surplus (highest_gap 0 form.body) form.name c.args.ending.now c.if-ending-le1.true (sym c.arguments_given.ensures ∙ c.if-arguments_given-eq0.true))
