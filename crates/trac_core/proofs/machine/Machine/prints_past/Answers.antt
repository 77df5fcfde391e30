use Rattle.trac_core.proofs.Imports.{◌≡◌, ◌≤◌, ◌<◌, length, ap, sym, ◌∙◌, subst, arith, Text, Input, MatchOption, memory_of}
use Rattle.trac_core.proofs.Printed.{next-printing, next-quiet}
use Rattle.trac_core.specs.Session.{next_printed, step_prints}
use Rattle.trac_core.proofs.machine.Machine.prints_past.Goals as goal

pub returns-then-prints-clause-past : goal.returns-then-prints-clause-past
returns-then-prints-clause-past c =
    let inside = c.self.inside in
    let next = next-printing c.args.self.now c.args.function c.requires.asked (sym c.prints.ensures ∙ c.if-prints.true) in
    let same : (input : Input) → step_prints (memory_of inside.meta inside.work) input ≡ next_printed c.args.self.now input = λ input. ap (λ m. step_prints m.memory input) c.self.view_is ∙ next.1 input in
    subst (λ (printed : Input → Text). MatchOption c.printed_past.result ((input : Input) → length (printed input) ≤ c.args.free) (λ n. (c.args.free < n) × ((input : Input) → n ≡ length (printed input)))) (λ i input. same input i) (c.printed_past.ensures.past inside.meta)

pub returns-else-prints-clause-past : goal.returns-else-prints-clause-past
returns-else-prints-clause-past c = λ input.
    let none = ap length (next-quiet c.args.self.now c.args.function input c.requires.asked (sym c.prints.ensures ∙ c.if-prints.false)) in
    omega (arith, none)
