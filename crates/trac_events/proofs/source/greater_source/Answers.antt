use Rattle.trac_events.proofs.Imports.{◌∙◌, ap, if◌then◌else◌, int_lt, text_of_cells}
use Rattle.trac_language.specs.Number.{number}
use Rattle.trac_language.specs.State.{argument}
use Rattle.trac_core.specs.OpenCalls.{next_texts}
use Rattle.trac_functions.proofs.MadeValues.{same-order}
use Rattle.trac_events.specs.declared.source.ValueSource.TheVariants.{Argument}
use Rattle.trac_events.proofs.source.greater_source.Goals as goal

pub returns : goal.returns
returns c =
    let args = next_texts c.args.machine.now in
    let first = text_of_cells c.next_argument.result.now in
    let second = text_of_cells c.next_argument-2.result.now in
    let more = same-order c.greater.result (number second) (number first) c.greater.ensures
    ∙ ap (λ t. int_lt (number second) (number t)) c.next_argument.ensures.argument
    ∙ ap (λ t. int_lt (number t) (number (argument args 1))) c.next_argument-2.ensures.argument in
    c.chosen.ensures ∙ ap (λ b. if b then Argument 3 else Argument 4) more
