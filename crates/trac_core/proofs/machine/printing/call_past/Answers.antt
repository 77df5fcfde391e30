use Rattle.trac_core.proofs.Imports.{◌≤◌, ◌∙◌, length, arith, world, function_at}
use Rattle.trac_core.proofs.Printed.{prints-no-more}
use Rattle.std.proofs.lemmas.Grind.{common_steps}
use Rattle.trac_core.proofs.machine.printing.call_past.Goals as goal

pub returns-then-not-displays-clause-past : goal.returns-then-not-displays-clause-past
returns-then-not-displays-clause-past c = λ meta input.
    let w = c.args.work.now in
    let least : length w.neutral ≤ c.args.free = omega (arith, c.if-from-free.true, c.neutral_len.ensures.value, c.from.ensures) in
    let less = prints-no-more w.neutral c.args.place (world w.forms meta input) (function_at w.neutral c.args.place) (λ displays. c.displays.ensures (grind (arith, common_steps)) (c.requires.named ∙ displays)) in
    omega (arith, least, less)
