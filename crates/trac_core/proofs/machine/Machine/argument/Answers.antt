use Rattle.trac_core.proofs.Imports.{◌≡◌, true, false, not, ◌∙◌, ap, arith, is_some, nat_lt}
use Rattle.trac_core.proofs.machine.Machine.argument.Goals as goal

pub returns-then-self-clause-argument : goal.returns-then-self-clause-argument
returns-then-self-clause-argument c =
    let i = c.self.inside in
    let not_over : is_some i.fate ≡ false = c.is_none.ensures ∙ ap not c.if-is_none.true in
    let left : nat_lt i.steps i.allowance ≡ true = grind arith in
    rw (← c.self.view_is, not_over, left) (c.performed_argument.ensures.argument i.meta)
