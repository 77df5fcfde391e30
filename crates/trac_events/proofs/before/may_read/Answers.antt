use Rattle.std.proofs.Common.{◌∙◌, ap, sym}
use Rattle.trac_language.specs.Function.{function_named}
use Rattle.trac_space.specs.Texts.{text_of_cells}
use Rattle.trac_core.specs.Session.{awaited}
use Rattle.trac_events.specs.Calls.{argument_of}
use Rattle.trac_events.proofs.Awaiting.{none-reads, other-reads}
use Rattle.trac_events.proofs.before.may_read.Goals as goal

pub returns-in-Some : goal.returns-in-Some
returns-in-Some c = λ other.
    other-reads c.args.machine.now c.neutral-neutral.result.now c.neutral-neutral.ensures c.in-Some.mark (sym c.in-Some.is ∙ c.call_mark.ensures)
    (sym (ap awaited (c.function_of.ensures ∙ ap (λ cells. function_named (text_of_cells (argument_of cells 0))) c.arguments_of.ensures)) ∙ c.reads_input.ensures other)

pub returns-in-None : goal.returns-in-None
returns-in-None c = λ other.
    none-reads c.args.machine.now c.neutral-neutral.result.now c.neutral-neutral.ensures (sym c.in-None.is ∙ c.call_mark.ensures)
