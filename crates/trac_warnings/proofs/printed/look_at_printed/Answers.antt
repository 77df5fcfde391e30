use Rattle.std.proofs.Common.{◌∙◌, ap, sym}
use Rattle.trac_space.specs.Texts.{text_of_cells}
use Rattle.trac_warnings.specs.Blanks.{trimmed}
use Rattle.trac_warnings.specs.Printed.{behind_call}
use Rattle.trac_warnings.proofs.Keeping.{nothing_said}
use Rattle.trac_warnings.proofs.Signs.{no_call, no_print}
use Rattle.trac_warnings.proofs.printed.look_at_printed.Goals as goal

pub returns-then-not-has_sign-clause-said : goal.returns-then-not-has_sign-clause-said
returns-then-not-has_sign-clause-said g c =
    let printed = c.trimmed-printed.ensures ∙ ap trimmed c.argument.ensures in
    let none = sym c.has_sign.ensures ∙ c.if-not-has_sign.true in
    nothing_said _ _ (no_print c.args.function c.args.ending.now (ap (λ t. behind_call (text_of_cells t)) (sym printed) ∙ no_call (text_of_cells c.trimmed-printed.result.now) none))
