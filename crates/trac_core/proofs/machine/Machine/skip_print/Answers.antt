use Rattle.trac_core.proofs.Imports.{◌≡◌, ◌++◌, ◌∙◌, None, [], refl, sym, subst, arith, ending, memory_of, moment, counted, MachineState, GoesOn}
use Rattle.trac_core.specs.Session.{next_function}
use Rattle.trac_functions.proofs.FlatLemmas.{size-used}
use Rattle.trac_core.proofs.Printed.{next-quiet, next-printing, next-allowed}
use Rattle.trac_core.proofs.machine.Machine.skip_print.Goals as goal

pub returns-then-not-prints-clause-limits : goal.returns-then-not-prints-clause-limits
returns-then-not-prints-clause-limits c =
    let i = c.self.inside in
    rw (← c.self.view_is)
    (record { cells = omega (arith, size-used i.meta i.work); steps = c.self.invariant.0; peak = c.self.invariant.1 })

pub returns-then-not-prints-clause-refused : goal.returns-then-not-prints-clause-refused
returns-then-not-prints-clause-refused c =
    (sym (next-quiet c.args.self.now c.next_function-function.result (ending []) c.next_function-function.ensures (sym c.prints.ensures ∙ c.if-not-prints.true)), refl)

pub returns-in_default-clause-limits : goal.returns-in_default-clause-limits
returns-in_default-clause-limits c =
    let i = c.self.inside in
    rw c.in_default.ensures.skipped.1
    (record { cells = omega (arith, size-used i.meta i.work); steps = c.self.invariant.0; peak = c.self.invariant.1 })

pub returns-in_default-clause-refused : goal.returns-in_default-clause-refused
returns-in_default-clause-refused c =
    let i = c.self.inside in
    let m : MachineState = record { memory = memory_of i.meta i.work; room = i.work.room; allowance = i.allowance; steps = i.steps; peak = i.peak; fate = i.fate; stops = i.stops } in
    let is : c.next_function-function.result ≡ next_function m = rw (← c.self.view_is) at c.next_function-function.ensures in
    let prints = next-printing m c.next_function-function.result is (sym c.prints.ensures ∙ c.if-not-prints.false) in
    let skipped = c.in_default.ensures.skipped in
    rw (← c.self.view_is, skipped.1) ((sym (prints.1 (ending [])) ∙ skipped.0 i.meta (ending []), refl))

pub returns-clause-done : goal.returns-clause-done
returns-clause-done c =
    let i = c.self.inside in
    let m : MachineState = record { memory = memory_of i.meta i.work; room = i.work.room; allowance = i.allowance; steps = i.steps; peak = i.peak; fate = i.fate; stops = i.stops } in
    let is : c.next_function-function.result ≡ next_function m = rw (← c.self.view_is) at c.next_function-function.ensures in
    let does = sym c.prints.ensures ∙ c.if-not-prints.false in
    let prints = next-printing m c.next_function-function.result is does in
    let allowed = next-allowed m c.next_function-function.result is does in
    let skipped = c.in-Some.ensures.skipped in
    rw (← c.self.view_is, c.count.ensures.after, skipped.0, c.skip_printing.ensures.keeps.room) (
      (λ none. skipped.1.1.0 i.meta (ending []) (prints.1 (ending []) ∙ none)),
      λ source written.
          subst (λ text. GoesOn (moment m source written) (moment (counted m (memory_of i.meta c.skip_printing.new.work) c.in-Some.outcome.need None) source (written ++ text)))
          (prints.1 (ending source.bytes)) (skipped.1.1.1 i.meta source written m refl refl allowed.1),
    )
