use Rattle.trac_core.proofs.Imports.{◌≡◌, ◌<◌, ◌≤◌, ap, sym, ◌∙◌, subst, length, memory_of, arith, Text, Input, MatchOption}
use Rattle.trac_core.proofs.Performed.{performs-innermost, uncalled}
use Rattle.trac_core.proofs.Printed.{step-prints-none, step-prints-call}
use Rattle.trac_core.proofs.machine.printing.printed_past.Goals as goal

pub returns-in-None-clause-past : goal.returns-in-None-clause-past
returns-in-None-clause-past c = λ meta input.
    let none = ap length (step-prints-none (memory_of meta c.args.work.now) input (sym (uncalled (memory_of meta c.args.work.now) (c.in-None.ensures.call meta)))) in
    omega (arith, none)

pub returns-in-Some-clause-past : goal.returns-in-Some-clause-past
returns-in-Some-clause-past c = λ meta.
    let w = c.args.work.now in
    let closed = c.in-Some.ensures.call in
    subst (λ (printed : Input → Text). MatchOption c.call_past.result ((input : Input) → length (printed input) ≤ c.args.free) (λ n. (c.args.free < n) × ((input : Input) → n ≡ length (printed input))))
    (λ i input. sym (step-prints-call w c.in-Some.place meta input c.closed_call.ensures.sound closed.0 closed.1) i) (c.call_past.ensures.past meta)

pub call_past-requires-clause-named : goal.call_past-requires-clause-named
call_past-requires-clause-named c =
    let closed = c.in-Some.ensures.call in
    c.requires.asked 0 ∙ sym (performs-innermost c.args.work.now c.in-Some.place 0 c.closed_call.ensures.sound closed.0 closed.1)
