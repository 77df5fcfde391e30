use Rattle.trac_core.proofs.Imports.{◌≡◌, ◌+◌, ap, subst, counted}
use Rattle.trac_core.specs.declared.machine.Counters.{Counters}
use Rattle.trac_core.proofs.machine.advancing.over.Goals as goal

pub returns-clause-counts : goal.returns-clause-counts
returns-clause-counts c = λ m memory steps_is peak_is.
    let before : Counters = record { allowance = c.args.at.allowance; steps = c.args.at.steps + c.args.done; peak = c.args.peak } in
    let counts = subst (λ fate. c.after-counters.result ≡ record before { steps = (counted m memory c.args.last.need fate).steps; peak = (counted m memory c.args.last.need fate).peak }) c.requires.fate (c.after-counters.ensures.counts m memory steps_is peak_is) in
    (ap (λ (k : Counters). k.steps) counts, ap (λ (k : Counters). k.peak) counts)
