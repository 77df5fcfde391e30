use Rattle.trac_events.proofs.Imports.{◌∙◌, ap, bytes_eq, if◌then◌else◌, text_of_cells}
use Rattle.trac_language.specs.State.{argument}
use Rattle.trac_core.specs.OpenCalls.{next_texts}
use Rattle.trac_events.specs.declared.source.ValueSource.TheVariants.{Argument}
use Rattle.trac_events.proofs.source.equal_source.Goals as goal

pub returns : goal.returns
returns c =
    let args = next_texts c.args.machine.now in
    let second = text_of_cells c.next_argument-2.result.now in
    let same = c.is_same.ensures
    ∙ ap (λ t. bytes_eq t second) c.next_argument.ensures.argument
    ∙ ap (λ t. bytes_eq (argument args 1) t) c.next_argument-2.ensures.argument in
    c.chosen.ensures ∙ ap (λ b. if b then Argument 3 else Argument 4) same
