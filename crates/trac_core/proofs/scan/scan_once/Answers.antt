use Rattle.trac_core.proofs.Imports.{◌≡◌, arith, subst, memory_of, PassesTimes}
use Rattle.trac_core.proofs.scan.scan_once.Goals as goal

pub returns-in-Ok-clause-comes : goal.returns-in-Ok-clause-comes
returns-in-Ok-clause-comes c = λ meta.
    let h = c.in-Ok.ensures.comes in
    let n = c.in-Ok.field-0 in
    let one : n ≡ 1 = omega (arith, h.some, h.few) in
    subst (λ n. PassesTimes n (memory_of meta c.args.work.now) (memory_of meta c.scan_steps.new.work)) one (h.passes meta)
