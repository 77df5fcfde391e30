use Rattle.trac_core.proofs.Imports.{ap, sym, ◌∙◌, length, memory_of}
use Rattle.trac_core.proofs.Performed.{uncalled}
use Rattle.trac_core.proofs.Printed.{step-prints-none, step-prints-call}
use Rattle.trac_core.proofs.machine.printing.printed_len.Goals as goal

pub returns-in-None-clause-length : goal.returns-in-None-clause-length
returns-in-None-clause-length c = λ meta input.
    ap length (step-prints-none (memory_of meta c.args.work.now) input (sym (uncalled (memory_of meta c.args.work.now) (c.in-None.ensures.call meta))))

pub returns-in-Some-clause-length : goal.returns-in-Some-clause-length
returns-in-Some-clause-length c = λ meta input.
    let w = c.args.work.now in
    let closed = c.in-Some.ensures.call in
    c.call_len.ensures.length meta input
    ∙ sym (ap length (step-prints-call w c.in-Some.place meta input c.closed_call.ensures.sound closed.0 closed.1))
