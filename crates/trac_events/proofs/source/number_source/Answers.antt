use Rattle.trac_events.proofs.Imports.{◌≡◌, ◌==◌, ap, arith, eq-eqb, if◌then◌else◌, sym, true, unsigned_abs}
use Rattle.trac_language.specs.Number.{number}
use Rattle.trac_language.specs.State.{argument}
use Rattle.trac_core.specs.OpenCalls.{next_texts}
use Rattle.trac_events.specs.Sources.{of_named_form, part_source}
use Rattle.trac_events.specs.declared.source.ValueSource.TheVariants.{Nothing}
use Rattle.trac_events.proofs.source.number_source.Goals as goal

pub returns-then-count_of-eq0 : goal.returns-then-count_of-eq0
returns-then-count_of-eq0 c =
    let args = next_texts c.args.machine.now in
    let size = ap (λ t. unsigned_abs (number t)) c.next_argument.ensures.argument in
    let none : (unsigned_abs (number (argument args 2)) == 0) ≡ true = eq-eqb (unsigned_abs (number (argument args 2))) 0 (omega (arith, size, c.count_of.ensures.size)) in
    sym (ap (λ b. if b then Nothing else of_named_form args c.args.machine.now.memory.forms (part_source 0 3)) none)
