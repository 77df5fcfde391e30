use Rattle.trac_core.proofs.Imports.{◌<◌, ◌≤◌, ap, arith, length}
use Rattle.trac_functions.proofs.ArgumentLemmas.{none-left}
use Rattle.trac_functions.proofs.FormLemmas.{next-left, fewer-left, texts-bounded}
use Rattle.trac_core.proofs.machine.arguments.arguments_left.Goals as goal

pub loop-arguments-smaller : goal.loop-arguments-smaller
loop-arguments-smaller c =
    let before = c.loop-arguments.arguments in
    let some : before.from ≤ before.end = grind (arith, c.is_empty.ensures) in
    fewer-left c.args.work.now before c.next.new.self some c.next.ensures.rest

pub loop-arguments-preserved : goal.loop-arguments-preserved
loop-arguments-preserved c =
    let i = c.loop-arguments.invariant in
    let before = c.loop-arguments.arguments in
    let some : before.from ≤ before.end = grind (arith, c.is_empty.ensures) in
    (c.next.ensures.left, omega (arith, i.1, ap length (next-left c.args.work.now before c.next.new.self some c.next.ensures.rest)))

pub overflow_add-count : goal.overflow_add-count
overflow_add-count c =
    let before = c.loop-arguments.arguments in
    let some : before.from ≤ before.end = grind (arith, c.is_empty.ensures) in
    omega (arith, c.loop-arguments.invariant.1, fewer-left c.args.work.now before c.next.new.self some c.next.ensures.rest, texts-bounded c.args.work.now c.args.arguments c.requires)

pub returns : goal.returns
returns c =
    let past : c.loop-arguments.arguments.end < c.loop-arguments.arguments.from = grind (arith, c.is_empty.ensures) in
    omega (arith, c.loop-arguments.invariant.1, ap length (none-left c.args.work.now c.loop-arguments.arguments past))
